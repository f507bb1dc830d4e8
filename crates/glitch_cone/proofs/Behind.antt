-- The cones of sources, made in an order in which each gate stands after what it reads.
use Rattle.std.proofs.Common.{◌≡◌, ◌<◌, ◌⊎◌, ℕ, ◌||◌, not, true, false, List, [], ◌∷◌, length, All, Option, None, Some, refl, sym, ap, ◌∙◌, subst, inl, inr, true≢false, ⊎_elim}
use Rattle.std.specs.List.{flat_map, list_any}
use Rattle.std.specs.Option.{option_map_or}
use Rattle.std.proofs.lemmas.Bool.{cases_Bool, cond-true, cond-false, or_cases, or_from, not_from_false, not_from_true}
use Rattle.std.proofs.lemmas.List.Folds.{list_any-append}
use Rattle.std.proofs.lemmas.List.Elements.{All-head, All-tail}
use Rattle.cell_kinds.specs.declared.kind.CellKind.{CellKind}
use Rattle.cell_kinds.specs.declared.kind.CellKind.TheVariants.{Gate, Flop}
use Rattle.cell_kinds.specs.declared.kind.Flop.{Flop as AnyFlop}
use Rattle.cell_kinds.specs.declared.kind.GateKind.{GateKind}
use Rattle.circuit_types.specs.declared.nets.Nets.{Nets}
use Rattle.circuit_types.specs.declared.nets.Source.{Source}
use Rattle.circuit_types.specs.declared.nets.Source.TheVariants as source
use Rattle.circuit_types.specs.declared.probes.Model.TheVariants as model
use Rattle.circuit_types.specs.declared.roles.Roles.{Roles}
use Rattle.circuit_types.specs.DataSources.{cell_at, pin_sources, gate_sources, IsWithin}
use Rattle.circuit_types.specs.InputBits.{is_probed, role_of}
use Rattle.circuit_types.specs.Order.{has}
use Rattle.circuit_types.specs.Stable.{is_same_source, has_source, stable_leaf, stable_cell, stable_sources, AreStableByCells}
use Rattle.circuit_types.proofs.ByCells.{stable_by_cells}
use Rattle.circuit_types.proofs.Finding.{found_leaf}
use Rattle.glitch_cone.specs.declared.places.Places.{Places}
use Rattle.glitch_cone.specs.Cones.{is_gate_kind, is_gate, own_numbers, list_at, kept_cone, IsBehind, AreProbed}
use Rattle.glitch_cone.specs.Numbers.{IsCone, source_at}
use Rattle.glitch_cone.specs.Places.{kept_place, IsPlace, ShowsPlaces}
use Rattle.glitch_cone.proofs.Listed.{input_probed}
use Rattle.glitch_cone.proofs.Numbered.{no_cone, own_cone}

pub flop_kind : (kind : CellKind) → is_gate_kind kind ≡ false → (f : AnyFlop) × (kind ≡ Flop f)
flop_kind (Gate g) h = absurd (true≢false h)
flop_kind (Flop f) h = (f, refl)

pub same_cell : (a b : ℕ) → source.Cell a ≡ source.Cell b → a ≡ b
same_cell a b e = cc

pub some_is : (a b : ℕ) → Some a ≡ Some b → a ≡ b
some_is a b e = cc

has_source-flat_map : (f : Source → List Source) (ss : List Source) (t : Source) → has_source (flat_map f ss) t ≡ list_any (λ s. has_source (f s) t) ss
has_source-flat_map f [] t = refl
has_source-flat_map f (s ∷ ss) t =
    list_any-append (is_same_source t) (f s) (flat_map f ss) ∙ ap (λ b. has_source (f s) t || b) (has_source-flat_map f ss t)

-- the sources behind which nothing is stable
module _ (roles : Roles) (nets : Nets) where
  abbrev stable : Source → List Source
  stable = stable_sources roles nets

  stable_unknown : stable source.Unknown ≡ []
  unfolding stable_sources
  stable_unknown = found_leaf (stable_leaf roles) (λ k. stable_cell (cell_at nets k).kind k) gate_sources nets source.Unknown (λ f g. refl)

  stable_missing : stable source.Missing ≡ []
  unfolding stable_sources
  stable_missing = found_leaf (stable_leaf roles) (λ k. stable_cell (cell_at nets k).kind k) gate_sources nets source.Missing (λ f g. refl)

module _ (nets : Nets) (sources : List Source) (places : Places) (shows : ShowsPlaces nets sources (length sources) places) where
  abbrev count : ℕ
  count = length sources

  -- a source has one number
  one_place : (s : Source) (n : ℕ) → n < count → source_at sources n ≡ s → kept_place places s ≡ Some n
  one_place s n lt is = subst (λ t. kept_place places t ≡ Some n) is (shows.own n lt)

  pub one_number : (s : Source) (n k : ℕ) → n < count → k < count → source_at sources n ≡ s → source_at sources k ≡ s → k ≡ n
  one_number s n k lt l is at = some_is k n (sym (one_place s k l at) ∙ one_place s n lt is)

  pub place_is : (s : Source) (n : ℕ) → kept_place places s ≡ Some n → (n < count) × (source_at sources n ≡ s)
  place_is s n is = subst (IsPlace sources count s) is (shows.each s)

  pub no_place : (s : Source) → kept_place places s ≡ None → (n : ℕ) → n < count → is_same_source (source_at sources n) s ≡ false
  no_place s is = subst (IsPlace sources count s) is (shows.each s)

  pub cone_at : (lists : List (List ℕ)) (s : Source) (o : Option ℕ) → kept_place places s ≡ o → kept_cone places lists s ≡ option_map_or (list_at lists) o []
  cone_at lists s o is = ap (λ p. option_map_or (list_at lists) p []) is

  -- what is stable behind inputs
  module _ (roles : Roles) (probed : AreProbed roles nets sources) where
    abbrev pub behind : Source → List Source
    behind = stable_sources roles nets

    pub by_cells : AreStableByCells roles nets behind
    by_cells = stable_by_cells roles nets probed.levelled

    pub input_stable : (bit n : ℕ) → n < count → source_at sources n ≡ source.Input bit → behind (source.Input bit) ≡ source.Input bit ∷ []
    input_stable bit n lt is =
        let list = probed.list in
        let l = subst (λ ss. n < length ss) list lt in
        let at = subst (λ ss. source_at ss n ≡ source.Input bit) list is in
        by_cells.input bit ∙ cond-true (option_map_or is_probed (role_of roles bit) false) (source.Input bit ∷ []) [] (input_probed roles nets probed.fits n bit l at)

    input_either : (bit : ℕ) → (behind (source.Input bit) ≡ source.Input bit ∷ []) ⊎ (behind (source.Input bit) ≡ [])
    input_either bit =
        ⊎_elim
        (λ t. inl (by_cells.input bit ∙ cond-true (option_map_or is_probed (role_of roles bit) false) (source.Input bit ∷ []) [] t))
        (λ f. inr (by_cells.input bit ∙ cond-false (option_map_or is_probed (role_of roles bit) false) (source.Input bit ∷ []) [] f))
        (cases_Bool (option_map_or is_probed (role_of roles bit) false))

    -- Of what sees itself.
    module _ (lists : List (List ℕ))
        (own : (n : ℕ) → n < count → list_at lists n ≡ own_numbers model.Glitch nets (source_at sources n) n) where
      own_list : (s : Source) (n : ℕ) → n < count → source_at sources n ≡ s → is_gate nets s ≡ false → list_at lists n ≡ n ∷ []
      own_list s n lt is out =
          own n lt ∙ ap (λ t. own_numbers model.Glitch nets t n) is
          ∙ cond-true (not (is_gate nets s)) (n ∷ []) [] (not_from_false (is_gate nets s) out)

      -- a stable source that stands in the list, and what is stable elsewhere
      own_made : (s : Source) → is_gate nets s ≡ false → ((n : ℕ) → n < count → source_at sources n ≡ s → behind s ≡ s ∷ []) → (behind s ≡ s ∷ []) ⊎ (behind s ≡ []) → IsCone sources (behind s) (kept_cone places lists s)
      own_made s out here either = go (kept_place places s) refl
        where
          go : (o : Option ℕ) → kept_place places s ≡ o → IsCone sources (behind s) (kept_cone places lists s)
          go (Some n) is =
              let p = place_is s n is in
              let b : behind s ≡ s ∷ [] = here n p.0 p.1 in
              let l : kept_cone places lists s ≡ n ∷ [] = cone_at lists s (Some n) is ∙ own_list s n p.0 p.1 out in
              subst (λ xs. IsCone sources (behind s) xs) (sym l)
              (subst (λ ss. IsCone sources ss (n ∷ [])) (sym b) (own_cone sources s n p.0 p.1 (λ k lt at. one_number s n k p.0 lt p.1 at)))
          go None is =
              let l : kept_cone places lists s ≡ [] = cone_at lists s None is in
              subst (λ xs. IsCone sources (behind s) xs) (sym l)
              (no_cone sources (behind s) (λ n lt.
              ⊎_elim
              (λ b. ap (λ ss. has_source ss (source_at sources n)) b ∙ or_from (is_same_source (source_at sources n) s) false (no_place s is n lt) refl)
              (λ b. ap (λ ss. has_source ss (source_at sources n)) b)
              either))

      none_made : (s : Source) → kept_place places s ≡ None → behind s ≡ [] → IsCone sources (behind s) (kept_cone places lists s)
      none_made s is b =
          subst (λ xs. IsCone sources (behind s) xs) (sym (cone_at lists s None is))
          (no_cone sources (behind s) (λ n lt. ap (λ ss. has_source ss (source_at sources n)) b))

      pub first_made : (s : Source) → IsWithin nets s → is_gate nets s ≡ false → IsCone sources (behind s) (kept_cone places lists s)
      first_made (source.Input bit) w out = own_made (source.Input bit) out (λ n lt is. input_stable bit n lt is) (input_either bit)
      first_made (source.Cell k) w out =
          let f = flop_kind (cell_at nets k).kind out in
          let b : behind (source.Cell k) ≡ source.Cell k ∷ [] = by_cells.flop k f.0 w f.1 in
          own_made (source.Cell k) out (λ n lt is. b) (inl b)
      first_made source.Zero w out = none_made source.Zero refl by_cells.zero_bit
      first_made source.One w out = none_made source.One refl by_cells.one_bit
      first_made source.Unknown w out = none_made source.Unknown refl (stable_unknown roles nets)
      first_made source.Missing w out = none_made source.Missing refl (stable_missing roles nets)

    -- Of a gate, where what it reads is made.
    module _ (lists : List (List ℕ)) where
      abbrev Cone : Source → Type 0
      Cone s = IsCone sources (behind s) (kept_cone places lists s)

      any_within : (ss : List Source) → All Cone ss → (n : ℕ) → list_any (λ s. has (kept_cone places lists s) n) ss ≡ true → n < count
      any_within [] all n h = absurd (true≢false (sym h))
      any_within (s ∷ ss) all n h =
          ⊎_elim
          (λ l. (All-head Cone s ss all).within n l)
          (λ r. any_within ss (All-tail Cone s ss all) n r)
          (or_cases (has (kept_cone places lists s) n) (list_any (λ s. has (kept_cone places lists s) n) ss) h)

      any_same : (ss : List Source) → All Cone ss → (n : ℕ) → n < count → list_any (λ s. has (kept_cone places lists s) n) ss ≡ list_any (λ s. has_source (behind s) (source_at sources n)) ss
      any_same [] all n lt = refl
      any_same (s ∷ ss) all n lt =
          ap (λ b. b || list_any (λ s. has (kept_cone places lists s) n) ss) ((All-head Cone s ss all).each n lt)
          ∙ ap (λ b. has_source (behind s) (source_at sources n) || b) (any_same ss (All-tail Cone s ss all) n lt)

      pub gate_made : (k : ℕ) (g : GateKind) (numbers : List ℕ) → k < length nets.cells → (cell_at nets k).kind ≡ Gate g → All Cone (pin_sources (cell_at nets k)) → IsBehind places lists (pin_sources (cell_at nets k)) numbers
          → IsCone sources (behind (source.Cell k)) numbers
      gate_made k g numbers lt is all made = record {
        ascends = made.ascends;
        within = λ n h. any_within (pin_sources (cell_at nets k)) all n (sym (made.each n) ∙ h);
        each = λ n l.
            made.each n
            ∙ any_same (pin_sources (cell_at nets k)) all n l
            ∙ sym (has_source-flat_map behind (pin_sources (cell_at nets k)) (source_at sources n))
            ∙ sym (ap (λ ss. has_source ss (source_at sources n)) (by_cells.gate k g lt is));
      }

  -- the lists of gates are empty at first
  pub first_late : (lists : List (List ℕ)) → ((n : ℕ) → n < count → list_at lists n ≡ own_numbers model.Glitch nets (source_at sources n) n) → (s : Source) → is_gate nets s ≡ true → kept_cone places lists s ≡ []
  first_late lists own s gated = go (kept_place places s) refl
    where
      go : (o : Option ℕ) → kept_place places s ≡ o → kept_cone places lists s ≡ []
      go None is = cone_at lists s None is
      go (Some n) is =
          let p = place_is s n is in
          cone_at lists s (Some n) is ∙ own n p.0 ∙ ap (λ t. own_numbers model.Glitch nets t n) p.1
          ∙ cond-false (not (is_gate nets s)) (n ∷ []) [] (not_from_true (is_gate nets s) gated)
