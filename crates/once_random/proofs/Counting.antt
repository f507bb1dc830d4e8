-- Counts of the numbers below a number that pass a test.
use Rattle.std.proofs.Common.{◌≡◌, ℕ, zero, suc, ◌+◌, ◌<◌, ◌≤◌, Bool, if◌then◌else◌, refl, arith, ⊎_elim}
use Rattle.std.proofs.lemmas.Bool.{cases_Bool, cond-true, cond-false}
use Rattle.once_random.specs.Numbers.{count_below}

le_more : (a b k n : ℕ) → a ≤ n → b ≡ k → k ≤ 1 → a + b ≤ suc n
le_more a b k n h e l = omega arith

pub count_below-le : (n : ℕ) (test : ℕ → Bool) → count_below n test ≤ n
count_below-le zero test = omega arith
count_below-le (suc n) test =
    ⊎_elim
    (λ t. let e : (if test n then 1 else 0) ≡ 1 = cond-true (test n) 1 0 t in le_more _ _ _ _ (count_below-le n test) e (omega arith))
    (λ f. let e : (if test n then 1 else 0) ≡ 0 = cond-false (test n) 1 0 f in le_more _ _ _ _ (count_below-le n test) e (omega arith))
    (cases_Bool (test n))

pub count_below-same : (n : ℕ) (f g : ℕ → Bool) → ((i : ℕ) → i < n → f i ≡ g i) → count_below n f ≡ count_below n g
count_below-same zero f g h = refl
count_below-same (suc n) f g h =
    let e : f n ≡ g n = h n (omega arith) in
    let r : count_below n f ≡ count_below n g = count_below-same n f g (λ i l. h i (omega arith)) in cc
