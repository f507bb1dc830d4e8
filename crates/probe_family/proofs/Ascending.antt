-- Ascending lists by their neighbours, and the members of a set one after the other.
use Rattle.std.proofs.Common.{◌≡◌, ℕ, zero, suc, ◌+◌, ◌<◌, ◌≤◌, Bool, true, false, List, [], ◌∷◌, ◌++◌, length, take, find, refl, sym, ap, ◌∙◌, subst, arith, nat_lt, Some, None, get_or}
use Rattle.std.proofs.lemmas.Bool.{and_parts, and_from, lt-ltb, le-ltb, ltb-true, false_from_ne_true, cond-true, cond-false}
use Rattle.std.proofs.lemmas.List.{take_more, take_all}
use Rattle.std.proofs.lemmas.Option.{same_Some, slice_get_within, get_or_from_slice_get}
use Rattle.std.specs.List.{list_all, slice_get}
use Rattle.std.specs.List.Sorted.{IsStrictlyIncreasing}
use Rattle.bit_rows.specs.Sets.{members, next_member}
use Rattle.bit_rows.proofs.Facts.{members-ascend}
use Rattle.probe_family.specs.Families.{is_ascending}

above_both : (p q : ℕ) (xs : List ℕ) → p < q → list_all (nat_lt q) xs ≡ true → list_all (nat_lt p) xs ≡ true
above_both p q [] lt all = refl
above_both p q (x ∷ xs) lt all =
    let split = and_parts (nat_lt q x) (list_all (nat_lt q) xs) all in
    let l = ltb-true q x split.0 in
    and_from (nat_lt p x) (list_all (nat_lt p) xs) (lt-ltb p x (omega arith)) (above_both p q xs lt split.1)

tail_steps : (p : ℕ) (xs : List ℕ) → IsStrictlyIncreasing (p ∷ xs) → IsStrictlyIncreasing xs
tail_steps p xs up k lt =
    let rest = up (suc k) (omega arith) in
    let e : suc k + 1 ≡ suc (k + 1) = omega arith in
    subst (λ i. get_or xs k 0 < get_or (p ∷ xs) i 0) e rest

-- where each number is below the next, each is below all that follow
pub ascending_from : (xs : List ℕ) → IsStrictlyIncreasing xs → is_ascending xs ≡ true
ascending_from [] up = refl
ascending_from (p ∷ []) up = refl
ascending_from (p ∷ q ∷ xs) up =
    let rest = ascending_from (q ∷ xs) (tail_steps p (q ∷ xs) up) in
    let lt : p < q = up 0 (omega arith) in
    and_from (list_all (nat_lt p) (q ∷ xs)) (is_ascending (q ∷ xs))
    (and_from (nat_lt p q) (list_all (nat_lt p) xs) (lt-ltb p q lt) (above_both p q xs lt (and_parts (list_all (nat_lt q) xs) (is_ascending xs) rest).0)) rest

pub ascending_steps : (xs : List ℕ) → is_ascending xs ≡ true → IsStrictlyIncreasing xs
ascending_steps [] up k lt = absurd (omega arith)
ascending_steps (p ∷ []) up k lt = absurd (omega arith)
ascending_steps (p ∷ q ∷ xs) up zero lt =
    ltb-true p q (and_parts (nat_lt p q) (list_all (nat_lt p) xs) (and_parts (list_all (nat_lt p) (q ∷ xs)) (is_ascending (q ∷ xs)) up).0).0
ascending_steps (p ∷ q ∷ xs) up (suc k) lt =
    let rest = ascending_steps (q ∷ xs) (and_parts (list_all (nat_lt p) (q ∷ xs)) (is_ascending (q ∷ xs)) up).1 k (omega arith) in
    let e : suc (k + 1) ≡ suc k + 1 = omega arith in
    subst (λ i. get_or (p ∷ q ∷ xs) (suc k) 0 < get_or (p ∷ q ∷ xs) i 0) e rest

-- a number that is not below the next shows that the list does not ascend
pub not_ascending : (xs : List ℕ) (k : ℕ) → k + 1 < length xs → get_or xs (k + 1) 0 ≤ get_or xs k 0 → is_ascending xs ≡ false
not_ascending xs k lt ge = false_from_ne_true (is_ascending xs) (λ up. let l = ascending_steps xs up k lt in omega arith)

found_above : (p : ℕ) (xs : List ℕ) (t q : ℕ) → list_all (nat_lt p) xs ≡ true → slice_get xs t ≡ Some q → p < q
found_above p [] t q all found = absurd (cc found)
found_above p (x ∷ xs) zero q all found =
    let l = ltb-true p x (and_parts (nat_lt p x) (list_all (nat_lt p) xs) all).0 in let e = same_Some x q found in omega arith
found_above p (x ∷ xs) (suc t) q all found = found_above p xs t q (and_parts (nat_lt p x) (list_all (nat_lt p) xs) all).1 found

next_in : (xs : List ℕ) (t p : ℕ) → is_ascending xs ≡ true → slice_get xs t ≡ Some p → find (nat_lt p) xs ≡ slice_get xs (suc t)
next_in [] t p up found = absurd (cc found)
next_in (x ∷ xs) zero p up found =
    let e : x ≡ p = same_Some x p found in
    cond-false (nat_lt p x) (Some x) (find (nat_lt p) xs) (le-ltb p x (omega arith)) ∙ first p xs (subst (λ k. list_all (nat_lt k) xs ≡ true) e (and_parts (list_all (nat_lt x) xs) (is_ascending xs) up).0)
  where
    first : (p : ℕ) (xs : List ℕ) → list_all (nat_lt p) xs ≡ true → find (nat_lt p) xs ≡ slice_get xs 0
    first p [] all = refl
    first p (y ∷ ys) all = cond-true (nat_lt p y) (Some y) (find (nat_lt p) ys) (and_parts (nat_lt p y) (list_all (nat_lt p) ys) all).0
next_in (x ∷ xs) (suc t) p up found =
    let split = and_parts (list_all (nat_lt x) xs) (is_ascending xs) up in
    let l = found_above x xs t p split.0 found in
    cond-false (nat_lt p x) (Some x) (find (nat_lt p) xs) (le-ltb p x (omega arith)) ∙ next_in xs t p split.1 found

-- the next member after one of the members is the one after it
pub next_after : (set : List Bool) (t p : ℕ) → slice_get (members set) t ≡ Some p → next_member set p ≡ slice_get (members set) (t + 1)
next_after set t p found =
    let e : suc t ≡ t + 1 = omega arith in
    next_in (members set) t p (ascending_from (members set) (members-ascend set)) found ∙ ap (slice_get (members set)) e

-- one more member
pub take_one_more : (xs : List ℕ) (t p : ℕ) → slice_get xs t ≡ Some p → take (t + 1) xs ≡ take t xs ++ p ∷ []
take_one_more xs t p found =
    take_more xs t 0 (slice_get_within xs t p found) ∙ ap (λ q. take t xs ++ q ∷ []) (get_or_from_slice_get xs t p 0 found)

-- no member is left
pub take_no_more : (xs : List ℕ) (t k : ℕ) → slice_get xs t ≡ None → t ≤ k → take t xs ≡ take k xs
take_no_more xs t k none le =
    take_all t xs (past xs t none) ∙ sym (take_all k xs (let p = past xs t none in omega arith))
  where
    past : (xs : List ℕ) (t : ℕ) → slice_get xs t ≡ None → length xs ≤ t
    past [] t none = omega arith
    past (x ∷ xs) zero none = absurd (cc none)
    past (x ∷ xs) (suc t) none = let p = past xs t none in omega arith
