-- Where the shares of outputs end.
use Rattle.std.proofs.Common.{◌≡◌, ◌<◌, ℕ, ◌+◌, ◌||◌, Bool, true, false, List, length, take, set, get_or, None, Some, refl, sym, ap, ◌∙◌, arith, ⊎_elim, length-set, get_or-set_same, get_or-set_other}
use Rattle.std.specs.List.{list_any, slice_get}
use Rattle.std.proofs.lemmas.Bool.{cases_eq, false_from_ne_true, or_right}
use Rattle.std.proofs.lemmas.List.Folds.{list_any_more}
use Rattle.std.proofs.lemmas.Option.{slice_get_within, slice_get-get_or}
use Rattle.circuit_types.specs.declared.nets.Nets.{Nets}
use Rattle.circuit_types.specs.declared.nets.Source.{Source}
use Rattle.circuit_types.specs.declared.nets.Source.TheVariants.{Missing}
use Rattle.circuit_types.specs.declared.roles.OutputShare.{OutputShare}
use Rattle.circuit_types.specs.Stable.{is_same_source}
use Rattle.glitch_cone.specs.declared.places.Places.{Places}
use Rattle.glitch_cone.specs.Numbers.{source_at}
use Rattle.glitch_cone.specs.Places.{kept_place, ShowsPlaces}
use Rattle.glitch_cone.proofs.Numbered.{same_is, same_from, not_same}
use Rattle.glitch_cone.proofs.Behind.{some_is, place_is, no_place}

some_source : (s t : Source) → Some s ≡ Some t → s ≡ t
some_source s t e = cc

-- the source of a bit, read by its number
pub source_read : (sources : List Source) (bit : ℕ) (s : Source) → slice_get sources bit ≡ Some s → s ≡ get_or sources bit Missing
source_read sources bit s is =
    some_source s (get_or sources bit Missing) (sym is ∙ slice_get-get_or sources bit Missing (slice_get_within sources bit s is))

or_false : (b : Bool) → (b || false) ≡ b
or_false true = refl
or_false false = refl

-- a share of the output ends at the source of this number
abbrev pub ends_at : Nets → List Source → ℕ → OutputShare → Bool
ends_at nets sources n o = is_same_source (get_or nets.sources o.bit Missing) (source_at sources n)

-- the flags after the first outputs
pub record AreFlags (nets : Nets) (sources : List Source) (outputs : List OutputShare) (i : ℕ) (flags : List Bool) : Type 0 where
  pub len : length flags ≡ length sources
  pub each : (n : ℕ) → n < length sources → get_or flags n false ≡ list_any (ends_at nets sources n) (take i outputs)

module _ (nets : Nets) (sources : List Source) (places : Places) (shows : ShowsPlaces nets sources (length sources) places) (outputs : List OutputShare) where
  module _ (i next : ℕ) (d : OutputShare) (s : Source) (flags : List Bool) (is : next ≡ i + 1) (lt : i < length outputs) (end : s ≡ get_or nets.sources (get_or outputs i d).bit Missing) (was : AreFlags nets sources outputs i flags) where
    any_more : (n : ℕ) → list_any (ends_at nets sources n) (take next outputs) ≡ (list_any (ends_at nets sources n) (take i outputs) || is_same_source s (source_at sources n))
    any_more n =
        ap (λ m. list_any (ends_at nets sources n) (take m outputs)) is ∙ list_any_more (ends_at nets sources n) outputs i d lt
        ∙ ap (λ t. list_any (ends_at nets sources n) (take i outputs) || is_same_source t (source_at sources n)) (sym end)

    pub flags_none : kept_place places s ≡ None → AreFlags nets sources outputs next flags
    flags_none none = record {
      len = was.len;
      each = λ n l.
          was.each n l ∙ sym (any_more n
          ∙ ap (λ b. list_any (ends_at nets sources n) (take i outputs) || b)
          (false_from_ne_true (is_same_source s (source_at sources n)) (λ t. not_same (source_at sources n) s (no_place nets sources places shows s none n l) (sym (same_is s (source_at sources n) t))))
          ∙ or_false (list_any (ends_at nets sources n) (take i outputs)));
    }

    pub flags_some : (m : ℕ) → kept_place places s ≡ Some m → AreFlags nets sources outputs next (set flags m true)
    flags_some m some = record {
      len = length-set flags m true ∙ was.len;
      each = λ n l.
          ⊎_elim
          (λ e. here n e)
          (λ other.
          get_or-set_other flags m n true false other ∙ was.each n l
          ∙ sym (any_more n
          ∙ ap (λ b. list_any (ends_at nets sources n) (take i outputs) || b) (false_from_ne_true (is_same_source s (source_at sources n)) (λ t. other (apart n l (same_is s (source_at sources n) t))))
          ∙ or_false (list_any (ends_at nets sources n) (take i outputs))))
          (cases_eq n m);
    }
      where
        place : (m < length sources) × (source_at sources m ≡ s)
        place = place_is nets sources places shows s m some

        in_flags : m < length flags
        in_flags = let l = place.0 in let e = was.len in omega arith

        here : (n : ℕ) → n ≡ m → get_or (set flags m true) n false ≡ list_any (ends_at nets sources n) (take next outputs)
        here n e =
            ap (λ k. get_or (set flags m true) k false) e ∙ get_or-set_same flags m true false in_flags
            ∙ sym (any_more n ∙ or_right (list_any (ends_at nets sources n) (take i outputs)) (is_same_source s (source_at sources n))
            (same_from s (source_at sources n) (sym (ap (source_at sources) e ∙ place.1))))

        apart : (n : ℕ) → n < length sources → s ≡ source_at sources n → n ≡ m
        apart n l e = some_is n m (sym (shows.own n l) ∙ ap (kept_place places) (sym e) ∙ some)
