-- The table of numbers while sources are put into it; and ranges of numbers, one more at a time.
use Rattle.std.proofs.Common.{◌≡◌, ◌<◌, ℕ, ◌+◌, true, false, cond, List, [], ◌∷◌, ◌++◌, length, map, get_or, All, Option, None, Some, sym, ap, ◌∙◌, subst, arith, ⊎_elim}
use Rattle.std.specs.List.{flat_map, range_with_len}
use Rattle.std.proofs.lemmas.Bool.{cases_Bool, cases_eq, cond-true, cond-false, false_from_ne_true}
use Rattle.std.proofs.lemmas.List.{append-nil, append_assoc, length-map, get_or-map, map-id}
use Rattle.std.proofs.lemmas.List.Concat.{flat_map-append}
use Rattle.std.proofs.lemmas.List.FromFn.{map-range_with_len_more}
use Rattle.circuit_types.specs.declared.nets.Nets.{Nets}
use Rattle.circuit_types.specs.declared.nets.Pin.{Pin}
use Rattle.circuit_types.specs.declared.nets.Source.{Source}
use Rattle.circuit_types.specs.declared.nets.Source.TheVariants as source
use Rattle.circuit_types.specs.Stable.{is_same_source}
use Rattle.glitch_cone.specs.declared.places.Places.{Places}
use Rattle.glitch_cone.specs.Numbers.{source_at}
use Rattle.glitch_cone.specs.Places.{kept_place, AreDistinct, IsPlace, ShowsPlaces, IsBitOrCell, HasPlace, HasRoom}
use Rattle.circuit_types.specs.DataSources.{IsWithin}
use Rattle.glitch_cone.proofs.Numbered.{same_is, same_from, not_same}

pub more_places : (nets : Nets) (sources : List Source) (i next : ℕ) (s : Source) (old new : Places) → next ≡ i + 1 → i < length sources → s ≡ source_at sources i → AreDistinct sources
    → length new.bits.items ≡ length old.bits.items → length new.cells.items ≡ length old.cells.items
    → ((t : Source) → kept_place new t ≡ cond (is_same_source s t) (Some i) (kept_place old t))
    → ShowsPlaces nets sources i old → ShowsPlaces nets sources next new
more_places nets sources i next s old new is lt at distinct bits cells kept was = record {
  bits = bits ∙ was.bits;
  cells = cells ∙ was.cells;
  each = λ t. ⊎_elim (λ same. comes t same) (λ other. stays t other) (cases_Bool (is_same_source s t));
  own = λ n l. ⊎_elim (λ e. own_here n e) (λ other. own_before n (omega arith)) (cases_eq n i);
}
  where
    comes : (t : Source) → is_same_source s t ≡ true → IsPlace sources next t (kept_place new t)
    comes t same =
        let k : kept_place new t ≡ Some i = kept t ∙ cond-true (is_same_source s t) (Some i) (kept_place old t) same in
        subst (IsPlace sources next t) (sym k) (omega arith, sym at ∙ same_is s t same)

    one_more : (t : Source) → is_same_source s t ≡ false → (o : Option ℕ) → IsPlace sources i t o → IsPlace sources next t o
    one_more t other (Some n) p = (let l = p.0 in omega arith, p.1)
    one_more t other None p = λ n l.
        ⊎_elim
        (λ e. subst (λ u. is_same_source u t ≡ false) (at ∙ ap (source_at sources) (sym e)) other)
        (λ apart. p n (omega arith))
        (cases_eq n i)

    stays : (t : Source) → is_same_source s t ≡ false → IsPlace sources next t (kept_place new t)
    stays t other =
        let k : kept_place new t ≡ kept_place old t = kept t ∙ cond-false (is_same_source s t) (Some i) (kept_place old t) other in
        subst (IsPlace sources next t) (sym k) (one_more t other (kept_place old t) (was.each t))

    own_here : (n : ℕ) → n ≡ i → kept_place new (source_at sources n) ≡ Some n
    own_here n e =
        kept (source_at sources n)
        ∙ cond-true (is_same_source s (source_at sources n)) (Some i) (kept_place old (source_at sources n)) (same_from s (source_at sources n) (at ∙ ap (source_at sources) (sym e)))
        ∙ ap (λ m. Some m) (sym e)

    own_before : (n : ℕ) → n < i → kept_place new (source_at sources n) ≡ Some n
    own_before n l =
        kept (source_at sources n)
        ∙ cond-false (is_same_source s (source_at sources n)) (Some i) (kept_place old (source_at sources n))
        (false_from_ne_true (is_same_source s (source_at sources n)) (λ t.
        not_same (source_at sources n) (source_at sources i) (distinct n i l lt) (sym (sym at ∙ same_is s (source_at sources n) t))))
        ∙ was.own n l

-- there is a place for each bit and cell
pub place_for : (nets : Nets) (sources : List Source) (count : ℕ) (places : Places) (s : Source) → ShowsPlaces nets sources count places → IsBitOrCell nets s → HasPlace places s
place_for nets sources count places (source.Input b) shows w = let e = shows.bits in let l : b < length nets.sources = w in omega arith
place_for nets sources count places (source.Cell k) shows w = let e = shows.cells in let l : k < length nets.cells = w in omega arith
place_for nets sources count places source.Zero shows w = w
place_for nets sources count places source.One shows w = w
place_for nets sources count places source.Unknown shows w = w
place_for nets sources count places source.Missing shows w = w

pub room_for : (nets : Nets) (places : Places) (s : Source) → length places.bits.items ≡ length nets.sources → length places.cells.items ≡ length nets.cells → IsWithin nets s → HasRoom places s
room_for nets places (source.Input b) bits cells w = let l : b < length nets.sources = w in omega arith
room_for nets places (source.Cell k) bits cells w = let l : k < length nets.cells = w in omega arith
room_for nets places source.Zero bits cells w = tt
room_for nets places source.One bits cells w = tt
room_for nets places source.Unknown bits cells w = tt
room_for nets places source.Missing bits cells w = tt

-- what holds of all that the pins read
pub pin_all : (P : Source → Type 0) (pins : List Pin) (i : ℕ) (d : Pin) → All P (map (λ (pin : Pin). pin.source) pins) → i < length pins → P (get_or pins i d).source
pin_all P pins i d all lt =
    let len : length (map (λ (pin : Pin). pin.source) pins) ≡ length pins = length-map pins (λ (pin : Pin). pin.source) in
    let at : get_or (map (λ (pin : Pin). pin.source) pins) i d.source ≡ (get_or pins i d).source = get_or-map (λ (pin : Pin). pin.source) pins i d d.source lt in
    subst P at (all i d.source (omega arith))

-- a list that is filled number by number
pub filled_more : {X : Type 0} (f : ℕ → X) (start old new : List X) (n next : ℕ) (x : X) → next ≡ n + 1 → x ≡ f n → new ≡ old ++ x ∷ [] → old ≡ start ++ map f (range_with_len 0 n)
    → new ≡ start ++ map f (range_with_len 0 next)
filled_more f start old new n next x is at push was =
    push ∙ ap (λ xs. xs ++ x ∷ []) was ∙ append_assoc start (map f (range_with_len 0 n)) (x ∷ [])
    ∙ ap (λ y. start ++ (map f (range_with_len 0 n) ++ y ∷ [])) at
    ∙ ap (λ xs. start ++ xs) (sym (map-range_with_len_more f 0 n n (omega arith)))
    ∙ ap (λ m. start ++ map f (range_with_len 0 m)) (sym is)

-- a range with one number more
range_more : (n : ℕ) → range_with_len 0 (n + 1) ≡ range_with_len 0 n ++ n ∷ []
range_more n =
    sym (map-id (range_with_len 0 (n + 1)))
    ∙ map-range_with_len_more (λ k. k) 0 n n (omega arith)
    ∙ ap (λ xs. xs ++ n ∷ []) (map-id (range_with_len 0 n))

-- a list that is filled part by part
pub parts_more : {X : Type 0} (f : ℕ → List X) (old new : List X) (n next : ℕ) → next ≡ n + 1 → new ≡ old ++ f n → old ≡ flat_map f (range_with_len 0 n) → new ≡ flat_map f (range_with_len 0 next)
parts_more f old new n next is push was =
    push ∙ ap (λ xs. xs ++ f n) was
    ∙ ap (λ xs. flat_map f (range_with_len 0 n) ++ xs) (sym (append-nil (f n)))
    ∙ sym (flat_map-append f (range_with_len 0 n) (n ∷ []))
    ∙ ap (flat_map f) (sym (range_more n))
    ∙ ap (λ m. flat_map f (range_with_len 0 m)) (sym is)
