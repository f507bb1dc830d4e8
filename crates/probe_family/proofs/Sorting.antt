-- A sorted list of the same numbers is the list in order.
use Rattle.std.proofs.Common.{◌≡◌, ℕ, zero, suc, ◌+◌, ◌<◌, ◌≤◌, Bool, true, false, ◌==◌, cond, List, [], ◌∷◌, length, refl, sym, ap, ◌∙◌, arith, ⊎_elim, nat_lt, get_or, count_by, IsPermutation, IsSorted}
use Rattle.std.proofs.lemmas.Bool.{cases_order, eq-eqb, ne_eqb, ltb-true, ltb-false}
use Rattle.std.proofs.lemmas.List.Sorted.{IsNonDecreasingBy-from_sort, sum_by-IsPermutation}
use Rattle.std.specs.List.{AllByRecursion}
use Rattle.std.specs.List.Sorted.{IsNonDecreasing}
use Rattle.std.specs.Ordering.{nat_cmp}
use Rattle.probe_family.specs.Least.{with_number, in_order}
use Rattle.probe_family.proofs.Bits.{one_if, count_cons}
use Rattle.probe_family.proofs.Ranges.{weaken_All}

-- no number is above one that follows it
abbrev Climbs : List ℕ → Type 0
Climbs [] = Unit {0}
Climbs (x ∷ xs) = AllByRecursion (λ y. x ≤ y) xs × Climbs xs

-- how often a number stands in the list
abbrev times : ℕ → List ℕ → ℕ
times v xs = count_by (λ x. x == v) xs

times_none : (v : ℕ) (xs : List ℕ) → AllByRecursion (λ x. v < x) xs → times v xs ≡ 0
times_none v [] all = refl
times_none v (x ∷ xs) all =
    count_cons (λ x. x == v) x xs ∙ (ap (λ b. one_if b + times v xs) (ne_eqb x v (λ e. let l = all.0 in omega arith)) ∙ (let rest = times_none v xs all.1 in omega arith))

times_first : (x : ℕ) (xs : List ℕ) → times x (x ∷ xs) ≡ suc (times x xs)
times_first x xs = count_cons (λ y. y == x) x xs ∙ (ap (λ b. one_if b + times x xs) (eq-eqb x x refl) ∙ omega arith)

-- lists that climb and have each number as often are the same
same_climbing : (xs ys : List ℕ) → Climbs xs → Climbs ys → ((v : ℕ) → times v xs ≡ times v ys) → xs ≡ ys
same_climbing [] [] up up' same = refl
same_climbing [] (y ∷ ys) up up' same = absurd (let e = same y in let f = times_first y ys in omega arith)
same_climbing (x ∷ xs) [] up up' same = absurd (let e = same x in let f = times_first x xs in omega arith)
same_climbing (x ∷ xs) (y ∷ ys) up up' same = ⊎_elim
    (λ is.
    let rest = same_climbing xs ys up.1 up'.1 (λ v. let e = same v in let f = count_cons (λ z. z == v) x xs in let g = count_cons (λ z. z == v) y ys in
    let h : one_if (x == v) ≡ one_if (y == v) = ap (λ k. one_if (k == v)) is in omega arith) in
    ap (λ k. k ∷ xs) is ∙ ap (λ l. y ∷ l) rest)
    (λ other. absurd (⊎_elim
    (λ below. let e = same x in let f = times_first x xs in let g = times_none x (y ∷ ys) (below, weaken_All (λ z. y ≤ z) (λ z. x < z) (λ z le. omega arith) ys up'.0) in omega arith)
    (λ above. let e = same y in let f = times_first y ys in let g = times_none y (x ∷ xs) (above, weaken_All (λ z. x ≤ z) (λ z. y < z) (λ z le. omega arith) xs up.0) in omega arith)
    other))
    (cases_order x y)

times_with : (v p : ℕ) (xs : List ℕ) → times v (with_number p xs) ≡ times v (p ∷ xs)
times_with v p [] = refl
times_with v p (x ∷ xs) = by_case (nat_lt p x) (times_with v p xs)
  where
    by_case : (b : Bool) → times v (with_number p xs) ≡ times v (p ∷ xs) → times v (cond b (p ∷ x ∷ xs) (x ∷ with_number p xs)) ≡ times v (p ∷ x ∷ xs)
    by_case true rest = refl
    by_case false rest =
        let a = count_cons (λ z. z == v) x (with_number p xs) in
        let b = count_cons (λ z. z == v) p (x ∷ xs) in
        let c = count_cons (λ z. z == v) x xs in
        let d = count_cons (λ z. z == v) p xs in
        omega arith

times_in_order : (v : ℕ) (xs : List ℕ) → times v (in_order xs) ≡ times v xs
times_in_order v [] = refl
times_in_order v (x ∷ xs) =
    let a = times_with v x (in_order xs) in
    let b = count_cons (λ z. z == v) x (in_order xs) in
    let c = count_cons (λ z. z == v) x xs in
    let d = times_in_order v xs in omega arith

with_All : (P : ℕ → Type 0) (p : ℕ) (xs : List ℕ) → P p → AllByRecursion P xs → AllByRecursion P (with_number p xs)
with_All P p [] here all = (here, tt)
with_All P p (x ∷ xs) here all = by_case (nat_lt p x) (with_All P p xs here all.1)
  where
    by_case : (b : Bool) → AllByRecursion P (with_number p xs) → AllByRecursion P (cond b (p ∷ x ∷ xs) (x ∷ with_number p xs))
    by_case true rest = (here, all)
    by_case false rest = (all.0, rest)

with_climbs : (p : ℕ) (xs : List ℕ) → Climbs xs → Climbs (with_number p xs)
with_climbs p [] up = (tt, tt)
with_climbs p (x ∷ xs) up = by_case (nat_lt p x) refl (with_climbs p xs up.1)
  where
    by_case : (b : Bool) → nat_lt p x ≡ b → Climbs (with_number p xs) → Climbs (cond b (p ∷ x ∷ xs) (x ∷ with_number p xs))
    by_case true is rest = let l = ltb-true p x is in ((omega arith, weaken_All (λ z. x ≤ z) (λ z. p ≤ z) (λ z le. omega arith) xs up.0), up)
    by_case false is rest = let l = ltb-false p x is in (with_All (λ z. x ≤ z) p xs l up.0, rest)

in_order_climbs : (xs : List ℕ) → Climbs (in_order xs)
in_order_climbs [] = tt
in_order_climbs (x ∷ xs) = with_climbs x (in_order xs) (in_order_climbs xs)

climbs_from : (xs : List ℕ) → IsNonDecreasing xs → Climbs xs
climbs_from [] up = tt
climbs_from (x ∷ xs) up = (above xs (λ k lt. up zero (suc k) 0 (omega arith) (omega arith)), climbs_from xs (λ i j d le lt. up (suc i) (suc j) d (omega arith) (omega arith)))
  where
    above : (ys : List ℕ) → ((k : ℕ) → k < length ys → x ≤ get_or ys k 0) → AllByRecursion (λ y. x ≤ y) ys
    above [] each = tt
    above (y ∷ ys) each = (each zero (omega arith), above ys (λ k lt. each (suc k) (omega arith)))

-- what a sort gives
pub sorted_is_in_order : (xs ys : List ℕ) → IsPermutation xs ys → IsSorted nat_cmp ys → ys ≡ in_order xs
sorted_is_in_order xs ys moved sorted =
    same_climbing ys (in_order xs) (climbs_from ys (IsNonDecreasingBy-from_sort (λ x. x) ys sorted)) (in_order_climbs xs)
    (λ v. sum_by-IsPermutation (λ x. cond (x == v) 1 0) xs ys moved ∙ sym (times_in_order v xs))
