-- What a cell waits for.
use Rattle.std.proofs.Common.{◌≡◌, ◌<◌, ℕ, ◌+◌, Bool, true, false, ◌||◌, List, [], ◌∷◌, All, length, map, take, get_or, refl, sym, ap, ◌∙◌, subst, arith, true≢false, ⊎_elim}
use Rattle.std.specs.List.{list_any, list_all}
use Rattle.std.proofs.lemmas.Bool.{and_parts, and_from, or_cases, eqb-true}
use Rattle.std.proofs.lemmas.List.{map_more, get_or-map, length-map}
use Rattle.std.proofs.lemmas.List.Folds.{list_all-append, list_any_at}
use Rattle.circuit_types.specs.declared.nets.Pin.{Pin}
use Rattle.circuit_types.specs.declared.nets.Source.{Source}
use Rattle.circuit_types.specs.declared.nets.Source.TheVariants as source
use Rattle.circuit_types.specs.Order.{is_ready}
use Rattle.level_unroll.specs.Queue.{is_cell, reads_cell, IsBelow}

abbrev pub sources_of : List Pin → List Source
sources_of pins = map (λ (pin : Pin). pin.source) pins

pub pin_below : (n : ℕ) (pins : List Pin) (i : ℕ) (d : Pin) → All (IsBelow n) (sources_of pins) → i < length pins → IsBelow n (get_or pins i d).source
pin_below n pins i d all lt =
    let len : length (sources_of pins) ≡ length pins = length-map pins (λ (pin : Pin). pin.source) in
    let at : get_or (sources_of pins) i d.source ≡ (get_or pins i d).source = get_or-map (λ (pin : Pin). pin.source) pins i d d.source lt in
    subst (IsBelow n) at (all i d.source (omega arith))

pub ready_pin : (done : ℕ → Bool) (pins : List Pin) (i next : ℕ) (d : Pin) → next ≡ i + 1 → i < length pins → list_all (is_ready done) (sources_of (take i pins)) ≡ true
    → list_all (is_ready done) ((get_or pins i d).source ∷ []) ≡ true → list_all (is_ready done) (sources_of (take next pins)) ≡ true
ready_pin done pins i next d is lt before here =
    ap (λ n. list_all (is_ready done) (sources_of (take n pins))) is
    ∙ ap (list_all (is_ready done)) (map_more (λ (pin : Pin). pin.source) pins i d lt)
    ∙ list_all-append (is_ready done) (sources_of (take i pins)) ((get_or pins i d).source ∷ [])
    ∙ and_from (list_all (is_ready done) (sources_of (take i pins))) (list_all (is_ready done) ((get_or pins i d).source ∷ [])) before here

or_false : (b : Bool) → (b || false) ≡ b
or_false true = refl
or_false false = refl

pub reads_pin : (pins : List Pin) (i c : ℕ) (d : Pin) → i < length pins → reads_cell ((get_or pins i d).source ∷ []) c ≡ true → reads_cell (sources_of pins) c ≡ true
reads_pin pins i c d lt h =
    let len : length (sources_of pins) ≡ length pins = length-map pins (λ (pin : Pin). pin.source) in
    let at : get_or (sources_of pins) i d.source ≡ (get_or pins i d).source = get_or-map (λ (pin : Pin). pin.source) pins i d d.source lt in
    list_any_at (is_cell c) (sources_of pins) i d.source (omega arith) (ap (is_cell c) at ∙ sym (or_false (is_cell c (get_or pins i d).source)) ∙ h)

here_ready : (done : ℕ → Bool) (c : ℕ) (s : Source) → is_ready done s ≡ true → is_cell c s ≡ true → done c ≡ true
here_ready done c (source.Cell k) a b = subst (λ n. done n ≡ true) (eqb-true k c b) a
here_ready done c (source.Input bit) a b = absurd (true≢false (sym b))
here_ready done c source.Zero a b = absurd (true≢false (sym b))
here_ready done c source.One a b = absurd (true≢false (sym b))
here_ready done c source.Unknown a b = absurd (true≢false (sym b))
here_ready done c source.Missing a b = absurd (true≢false (sym b))

-- a cell among sources that are all ready is in the set
pub ready_cell : (done : ℕ → Bool) (ss : List Source) (c : ℕ) → list_all (is_ready done) ss ≡ true → reads_cell ss c ≡ true → done c ≡ true
ready_cell done [] c h r = absurd (true≢false (sym r))
ready_cell done (s ∷ ss) c h r =
    let p = and_parts (is_ready done s) (list_all (is_ready done) ss) h in
    ⊎_elim (λ a. here_ready done c s p.0 a) (λ b. ready_cell done ss c p.1 b) (or_cases (is_cell c s) (list_any (is_cell c) ss) r)
