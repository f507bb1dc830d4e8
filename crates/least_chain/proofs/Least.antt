-- Heaps of numbers, and the least number that passes.
use Rattle.std.proofs.Common.{◌≡◌, ℕ, zero, suc, ◌<◌, ◌≤◌, Bool, true, false, ◌==◌, List, [], ◌∷◌, None, Some, All, refl, sym, subst, arith, true≢false, ⊎_elim}
use Rattle.std.specs.BinaryHeap.{IsUpperBound}
use Rattle.std.specs.List.Sorted.{IsPermutation}
use Rattle.std.specs.Ordering.{nat_cmp}
use Rattle.std.specs.declared.cmp.Reverse.{Reverse}
use Rattle.std.proofs.lemmas.Bool.{or_cases, eqb-true, false_from_ne_true}
use Rattle.std.proofs.lemmas.List.Sorted.{IsPermutation-map, IsPermutation-sym, All-permutation}
use Rattle.std.proofs.lemmas.Map.Keys.{ge_from_not_lt}
use Rattle.expr_table.specs.Table.{has}
use Rattle.once_random.specs.Numbers.{least_below}
use Rattle.once_random.proofs.Facts.{same_tests}
use Rattle.once_random.proofs.Least.{none_more, found_at}
use Rattle.live_rows.proofs.Numbers.{has_at}
use Rattle.least_chain.specs.LeastFirst.{numbers_in}

-- what holds of each element holds of what the list has
all_has : (P : ℕ → Type 0) (xs : List ℕ) → All P xs → (r : ℕ) → has xs r ≡ true → P r
all_has P [] all r h = absurd (true≢false (sym h))
all_has P (x ∷ xs) all r h =
    ⊎_elim (λ e. subst P (eqb-true x r e) (all 0 0 (omega arith)))
    (λ e. all_has P xs (λ k d l. all (suc k) d (omega arith)) r e)
    (or_cases (x == r) (has xs r) h)

-- lists with the same elements have the same numbers
moved_has : (xs ys : List ℕ) → IsPermutation xs ys → (r : ℕ) → has xs r ≡ true → has ys r ≡ true
moved_has xs ys same =
    all_has (λ r. has ys r ≡ true) xs (All-permutation (λ r. has ys r ≡ true) ys xs (IsPermutation-sym xs ys same) (λ k d l. has_at ys k d l))

pub permuted_has : (xs ys : List ℕ) → IsPermutation xs ys → (r : ℕ) → has xs r ≡ has ys r
permuted_has xs ys same r = same_tests (has xs r) (has ys r) (moved_has xs ys same r) (moved_has ys xs (IsPermutation-sym xs ys same) r)

-- the numbers of a heap whose elements moved
pub numbers_moved : (xs ys : List (Reverse ℕ)) → IsPermutation xs ys → (r : ℕ) → has (numbers_in xs) r ≡ has (numbers_in ys) r
numbers_moved xs ys same = permuted_has (numbers_in xs) (numbers_in ys) (IsPermutation-map (λ (item : Reverse ℕ). item.0) xs ys same)

-- the top of a heap is its least number
pub least_of : (x : Reverse ℕ) (xs : List (Reverse ℕ)) → IsUpperBound (λ (y z : Reverse ℕ). nat_cmp z.0 y.0) x xs → (r : ℕ) → has (numbers_in xs) r ≡ true → x.0 ≤ r
least_of x [] above r h = absurd (true≢false (sym h))
least_of x (y ∷ ys) above r h =
    ⊎_elim (λ e. subst (λ n. x.0 ≤ n) (eqb-true y.0 r e) (ge_from_not_lt y.0 x.0 above.0))
    (λ later. least_of x ys above.1 r later)
    (or_cases (y.0 == r) (has (numbers_in ys) r) h)

module _ (test : ℕ → Bool) where
  -- none passes below n
  none_below : (n : ℕ) → ((i : ℕ) → i < n → test i ≡ false) → least_below n test ≡ None
  none_below zero fails = refl
  none_below (suc n) fails = none_more test n (suc n) refl (none_below n (λ i l. fails i (omega arith))) (fails n (omega arith))

  pub none_passes : (n : ℕ) → ((i : ℕ) → test i ≡ true → ⊥) → least_below n test ≡ None
  none_passes n none = none_below n (λ i l. false_from_ne_true (test i) (none i))

  -- the number passes, and no lesser one does
  pub least_passes : (n e : ℕ) → e < n → test e ≡ true → ((i : ℕ) → test i ≡ true → e ≤ i) → least_below n test ≡ Some e
  least_passes n e lt passes least = found_at test n e lt (none_below e (λ i l. false_from_ne_true (test i) (λ t. let h = least i t in omega arith))) passes
