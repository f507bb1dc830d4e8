-- The turns in which cells are put in order.
use Rattle.std.proofs.Common.{◌≡◌, ◌<◌, ℕ, ◌||◌, Bool, true, false, List, [], ◌∷◌, ◌++◌, length, set, replicate, refl, sym, ap, ◌∙◌, arith, ⊎_elim, get_or-set_same, get_or-set_other}
use Rattle.std.proofs.lemmas.Bool.{cases_eq, cases_lt, ne_eqb}
use Rattle.std.proofs.lemmas.List.{get_or-replicate, get_or_past, length-replicate}
use Rattle.circuit_types.specs.Order.{has}
use Rattle.circuit_types.proofs.Ranges.{has-push, has-push_same}
use Rattle.level_unroll.specs.Queue.{is_in}

or_false : (b : Bool) → (b || false) ≡ b
or_false true = refl
or_false false = refl

-- the flags are those of the numbers in the list
pub marks_more : (flags : List Bool) (listed : List ℕ) (k : ℕ) → k < length flags → ((i : ℕ) → is_in flags i ≡ has listed i) → (i : ℕ) → is_in (set flags k true) i ≡ has (listed ++ k ∷ []) i
marks_more flags listed k lt marks i =
    ⊎_elim
    (λ e. ap (is_in (set flags k true)) e ∙ get_or-set_same flags k true false lt ∙ sym (ap (has (listed ++ k ∷ [])) e ∙ has-push_same listed k))
    (λ other. get_or-set_other flags k i true false other ∙ marks i ∙ sym (has-push listed k i ∙ ap (λ b. has listed i || b) (ne_eqb k i (λ e. other (sym e))) ∙ or_false (has listed i)))
    (cases_eq i k)

pub marks_none : (flags : List Bool) (n : ℕ) → flags ≡ replicate n false → (i : ℕ) → is_in flags i ≡ false
marks_none flags n is i =
    ap (λ f. is_in f i) is
    ∙ ⊎_elim (λ lt. get_or-replicate n i false false lt) (λ ge. get_or_past (replicate n false) i false (let len = length-replicate {A = Bool} n false in omega (arith, len))) (cases_lt i n)
