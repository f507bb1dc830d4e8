-- Elements of lists by their places, and how many pass a test.
use Rattle.std.proofs.Common.{◌≡◌, ℕ, zero, suc, ◌-◌, ◌<◌, ◌≤◌, Bool, true, List, [], ◌∷◌, ◌++◌, length, get_or, take, refl, sym, ap, ◌∙◌, subst, arith, Some, count_by, sum_by, ⊎_elim}
use Rattle.std.proofs.lemmas.Bool.{cases_Bool}
use Rattle.std.proofs.lemmas.List.{append-nil}
use Rattle.std.proofs.lemmas.Option.{same_Some}
use Rattle.std.specs.List.{slice_get, AllByRecursion}
use Rattle.probe_family.specs.declared.ending.Closed.{Closed}
use Rattle.probe_family.proofs.Bits.{one_if, count_cons}
use Rattle.frontier_core.proofs.Same.{same_closed, closed_itself, closed_equal}

module _ {X : Type 0} where
  pub counted_at : (p : X → Bool) (xs : List X) (i : ℕ) (x : X) → slice_get xs i ≡ Some x → p x ≡ true → 1 ≤ count_by p xs
  counted_at p [] i x at is = absurd (cc at)
  counted_at p (y ∷ ys) zero x at is = let all = count_cons p y ys in let one = ap one_if (ap p (same_Some y x at) ∙ is) in omega arith
  counted_at p (y ∷ ys) (suc i) x at is = let all = count_cons p y ys in let rest = counted_at p ys i x at is in omega arith

  -- where only one passes, two that pass are one
  pub one_place : (p : X → Bool) (xs : List X) (i j : ℕ) (x y : X) → count_by p xs ≤ 1 → slice_get xs i ≡ Some x → slice_get xs j ≡ Some y → p x ≡ true → p y ≡ true → x ≡ y
  one_place p [] i j x y few at_x at_y is_x is_y = absurd (cc at_x)
  one_place p (z ∷ zs) zero zero x y few at_x at_y is_x is_y = sym (same_Some z x at_x) ∙ same_Some z y at_y
  one_place p (z ∷ zs) zero (suc j) x y few at_x at_y is_x is_y =
      let all = count_cons p z zs in let one = ap one_if (ap p (same_Some z x at_x) ∙ is_x) in let more = counted_at p zs j y at_y is_y in absurd (omega arith)
  one_place p (z ∷ zs) (suc i) zero x y few at_x at_y is_x is_y =
      let all = count_cons p z zs in let one = ap one_if (ap p (same_Some z y at_y) ∙ is_y) in let more = counted_at p zs i x at_x is_x in absurd (omega arith)
  one_place p (z ∷ zs) (suc i) (suc j) x y few at_x at_y is_x is_y = let all = count_cons p z zs in one_place p zs i j x y (omega arith) at_x at_y is_x is_y

  -- where some pass, one of them is found
  pub place_of_one : (p : X → Bool) (xs : List X) → 1 ≤ count_by p xs → (i : ℕ) × (x : X) × (slice_get xs i ≡ Some x) × (p x ≡ true)
  place_of_one p [] some = absurd (omega arith)
  place_of_one p (y ∷ ys) some = let all = count_cons p y ys in ⊎_elim
      (λ passes. (zero, y, refl, passes))
      (λ fails. let none = ap one_if fails in let rest = place_of_one p ys (omega arith) in (suc rest.0, rest.1, rest.2, rest.3))
      (cases_Bool (p y))

  pub place_from_get_or : (xs : List X) (k : ℕ) (x : X) → k < length xs → get_or xs k x ≡ x → slice_get xs k ≡ Some x
  place_from_get_or [] k x lt e = absurd (omega arith)
  place_from_get_or (y ∷ ys) zero x lt e = ap (λ z. Some z) e
  place_from_get_or (y ∷ ys) (suc k) x lt e = place_from_get_or ys k x (omega arith) e

  pub at_All : (P : X → Type 0) (xs : List X) (i : ℕ) (x : X) → AllByRecursion P xs → slice_get xs i ≡ Some x → P x
  at_All P [] i x all at = absurd (cc at)
  at_All P (y ∷ ys) zero x all at = subst P (same_Some y x at) all.0
  at_All P (y ∷ ys) (suc i) x all at = at_All P ys i x all.1 at

  pub All_at : (P : X → Type 0) (xs : List X) → ((i : ℕ) (x : X) → slice_get xs i ≡ Some x → P x) → AllByRecursion P xs
  All_at P [] each = tt
  All_at P (x ∷ xs) each = (each zero x refl, All_at P xs (λ i y at. each (suc i) y at))

  pub get-left : (xs ys : List X) (i : ℕ) (x : X) → slice_get xs i ≡ Some x → slice_get (xs ++ ys) i ≡ Some x
  get-left [] ys i x at = absurd (cc at)
  get-left (y ∷ xs) ys zero x at = at
  get-left (y ∷ xs) ys (suc i) x at = get-left xs ys i x at

-- what a list is that nothing was popped from
pub nothing_left : {X : Type 0} (stack rest : List X) (len : ℕ) → stack ≡ rest ++ [] → rest ≡ take (len - 1) stack → len ≡ 0 → stack ≡ []
nothing_left stack rest len is rest_is none = is ∙ (append-nil rest ∙ (rest_is ∙ ap (λ n. take n stack) (let e : len - 1 ≡ 0 = omega arith in e)))

-- what holds of each of some closed families holds of each of fewer
pub fewer_All : (P : Closed → Type 0) (few many : List Closed) → ((h : Closed → ℕ) → sum_by h few ≤ sum_by h many) → AllByRecursion P many → AllByRecursion P few
fewer_All P few many le all = All_at P few (λ i c at.
    let here = counted_at (same_closed c) few i c at (closed_itself c) in
    let among = le (λ d. one_if (same_closed c d)) in
    let found = place_of_one (same_closed c) many (omega arith) in
    subst P (sym (closed_equal c found.1 found.3)) (at_All P many found.0 found.1 all found.2))
