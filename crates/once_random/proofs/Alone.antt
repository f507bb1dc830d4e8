-- Where one number passes, no other does exactly where the count is 1.
use Rattle.std.proofs.Common.{◌≡◌, ◌≢◌, ℕ, zero, suc, ◌+◌, ◌<◌, ◌≤◌, Bool, true, false, not, ◌||◌, ◌==◌, if◌then◌else◌, refl, sym, ap, ◌∙◌, subst, arith, ⊎_elim}
use Rattle.std.proofs.lemmas.Bool.{cases_eq, cases_lt, cond-true, cond-false, and_from, and_parts, or_cases, or_left, or_right, eq-eqb, eqb-true, not-true, false_from_ne_true}
use Rattle.once_random.specs.Numbers.{all_below, count_below}

pub all_below-at : (n : ℕ) (test : ℕ → Bool) → all_below n test ≡ true → (i : ℕ) → i < n → test i ≡ true
all_below-at zero test h i l = absurd (omega arith)
all_below-at (suc n) test h i l =
    let parts = and_parts (all_below n test) (test n) h in
    ⊎_elim (λ lt. all_below-at n test parts.0 i lt) (λ ge. let e : n ≡ i = omega arith in subst (λ k. test k ≡ true) e parts.1) (cases_lt i n)

pub all_below-from : (n : ℕ) (test : ℕ → Bool) → ((i : ℕ) → i < n → test i ≡ true) → all_below n test ≡ true
all_below-from zero test h = refl
all_below-from (suc n) test h = and_from (all_below n test) (test n) (all_below-from n test (λ i l. h i (omega arith))) (h n (omega arith))

-- two tests are one where each gives the other
pub same_tests : (a b : Bool) → (a ≡ true → b ≡ true) → (b ≡ true → a ≡ true) → a ≡ b
same_tests true b f g = sym (f refl)
same_tests false true f g = g refl
same_tests false false f g = refl

sum_is : (a b k m n : ℕ) → a ≡ k → b ≡ m → k + m ≡ n → a + b ≡ n
sum_is a b k m n e f g = omega arith

sum_from : (a b k m n : ℕ) → k ≤ a → b ≡ m → n ≤ k + m → n ≤ a + b
sum_from a b k m n h f g = omega arith

module _ (test : ℕ → Bool) where
  abbrev one_if : ℕ → ℕ
  one_if i = if test i then 1 else 0

  pub count_none : (n : ℕ) → ((i : ℕ) → i < n → test i ≡ false) → count_below n test ≡ 0
  count_none zero h = refl
  count_none (suc n) h = sum_is _ _ 0 0 0 (count_none n (λ i l. h i (omega arith))) (cond-false (test n) 1 0 (h n (omega arith))) refl

  count_one : (n e : ℕ) → e < n → test e ≡ true → ((i : ℕ) → i < n → i ≢ e → test i ≡ false) → count_below n test ≡ 1
  count_one zero e l t h = absurd (omega arith)
  count_one (suc n) e l t h =
      ⊎_elim
      (λ same. sum_is _ _ 0 1 1 (count_none n (λ i k. h i (omega arith) (λ is. let w : i ≡ n = is ∙ same in omega arith))) (cond-true (test n) 1 0 (subst (λ k. test k ≡ true) same t)) refl)
      (λ other. let lt : e < n = apart_lt e n l other in
      sum_is _ _ 1 0 1 (count_one n e lt t (λ i k. h i (omega arith))) (cond-false (test n) 1 0 (h n (omega arith) (λ is. other (sym is)))) refl)
      (cases_eq e n)
    where
      apart_lt : (x y : ℕ) → x < suc y → (x ≡ y → ⊥) → x < y
      apart_lt x y h o = ⊎_elim (λ z. z) (λ z. absurd (o (omega arith))) (cases_lt x y)

  pub count_some : (n i : ℕ) → i < n → test i ≡ true → 1 ≤ count_below n test
  count_some zero i l t = absurd (omega arith)
  count_some (suc n) i l t =
      ⊎_elim
      (λ lt. let h = count_some n i lt t in keep _ _ _ h)
      (λ ge. let e : i ≡ n = omega arith in sum_from _ _ 0 1 1 (omega arith) (cond-true (test n) 1 0 (subst (λ k. test k ≡ true) e t)) (omega arith))
      (cases_lt i n)
    where
      keep : (k a b : ℕ) → k ≤ a → k ≤ a + b
      keep k a b h = omega arith

  count_two : (n i j : ℕ) → i < j → j < n → test i ≡ true → test j ≡ true → 2 ≤ count_below n test
  count_two zero i j l k ti tj = absurd (omega arith)
  count_two (suc n) i j l k ti tj =
      ⊎_elim
      (λ lt. let h = count_two n i j l lt ti tj in keep _ _ _ h)
      (λ ge. let e : j ≡ n = omega arith in
      sum_from _ _ 1 1 2 (count_some n i (omega arith) ti) (cond-true (test n) 1 0 (subst (λ k. test k ≡ true) e tj)) (omega arith))
      (cases_lt j n)
    where
      keep : (k a b : ℕ) → k ≤ a → k ≤ a + b
      keep k a b h = omega arith

  apart : (n e i : ℕ) → e < n → i < n → (i ≡ e → ⊥) → test e ≡ true → test i ≡ true → 2 ≤ count_below n test
  apart n e i le li other te ti =
      ⊎_elim (λ lt. count_two n i e lt le ti te) (λ ge. count_two n e i (lt_of e i ge other) li te ti) (cases_lt i e)
    where
      lt_of : (x y : ℕ) → x ≤ y → (y ≡ x → ⊥) → x < y
      lt_of x y h o = ⊎_elim (λ z. z) (λ z. absurd (o (omega arith))) (cases_lt x y)

  pub alone : (n e : ℕ) → e < n → test e ≡ true → all_below n (λ i. i == e || not (test i)) ≡ (count_below n test == 1)
  alone n e l t =
      same_tests _ _
      (λ all. eq-eqb _ 1 (count_one n e l t (λ i k other.
      ⊎_elim (λ s. absurd (other (eqb-true i e s))) (λ s. not-true (test i) s)
      (or_cases (i == e) (not (test i)) (all_below-at n (λ i. i == e || not (test i)) all i k)))))
      (λ one. all_below-from n (λ i. i == e || not (test i)) (λ i k.
      ⊎_elim (λ same. or_left (i == e) _ (eq-eqb i e same))
      (λ other. or_right (i == e) (not (test i)) (ap not (false_from_ne_true (test i) (λ ti.
      let two = apart n e i l k other t ti in let c : count_below n test ≡ 1 = eqb-true _ 1 one in omega arith))))
      (cases_eq i e)))
