-- The first number of a range that passes a test, and sets given as lists of numbers.
use Rattle.std.proofs.Common.{◌≡◌, ℕ, zero, suc, ◌+◌, ◌<◌, ◌≤◌, ◌⊎◌, Bool, true, false, ◌||◌, ◌==◌, cond, List, [], ◌∷◌, ◌++◌, length, Option, Some, None, refl, sym, ap, ◌∙◌, subst, inl, inr, arith, true≢false, ⊎_elim}
use Rattle.std.specs.List.{find, list_any, range_with_len}
use Rattle.std.proofs.lemmas.Bool.{cases_Bool, cases_lt, cases_eq, cond-true, cond-false, eq-eqb, eqb-true, or_cases, or_left, or_right}
use Rattle.std.proofs.lemmas.List.Folds.{list_any-append}
use Rattle.circuit_types.specs.Order.{has}

module _ (test : ℕ → Bool) where
  pub found_first : (m s k : ℕ) → s ≤ k → k < s + m → test k ≡ true → ((j : ℕ) → s ≤ j → j < k → test j ≡ false) → find test (range_with_len s m) ≡ Some k
  found_first zero s k le lt passes before = absurd (omega arith)
  found_first (suc m) s k le lt passes before =
      ⊎_elim
      (λ same. cond-true (test s) (Some s) (find test (range_with_len (s + 1) m)) (subst (λ n. test n ≡ true) (sym same) passes) ∙ ap (λ n. Some n) same)
      (λ other.
      let here : test s ≡ false = before s (omega arith) (omega arith) in
      cond-false (test s) (Some s) (find test (range_with_len (s + 1) m)) here
      ∙ found_first m (s + 1) k (omega arith) (omega arith) passes (λ j a b. before j (omega arith) b))
      (cases_eq s k)

  pub none_found : (m s : ℕ) → ((j : ℕ) → s ≤ j → j < s + m → test j ≡ false) → find test (range_with_len s m) ≡ None
  none_found zero s fails = refl
  none_found (suc m) s fails =
      cond-false (test s) (Some s) (find test (range_with_len (s + 1) m)) (fails s (omega arith) (omega arith))
      ∙ none_found m (s + 1) (λ j a b. fails j (omega arith) (omega arith))

  pub find_passes : (m s k : ℕ) → find test (range_with_len s m) ≡ Some k → (s ≤ k) × (k < s + m) × (test k ≡ true)
  find_passes zero s k is = cc
  find_passes (suc m) s k is =
      ⊎_elim
      (λ t. let e : Some s ≡ Some k = sym (cond-true (test s) (Some s) (find test (range_with_len (s + 1) m)) t) ∙ is in
      let same : s ≡ k = cc in
      (omega arith, omega arith, subst (λ n. test n ≡ true) same t))
      (λ f. let h = find_passes m (s + 1) k (sym (cond-false (test s) (Some s) (find test (range_with_len (s + 1) m)) f) ∙ is) in
      (omega (arith, h.0), omega (arith, h.1), h.2))
      (cases_Bool (test s))

  pub find_fails : (m s : ℕ) → find test (range_with_len s m) ≡ None → (j : ℕ) → s ≤ j → j < s + m → test j ≡ false
  find_fails zero s none j le lt = absurd (omega arith)
  find_fails (suc m) s none j le lt =
      ⊎_elim
      (λ t. let e : Some s ≡ None = sym (cond-true (test s) (Some s) (find test (range_with_len (s + 1) m)) t) ∙ none in absurd (cc))
      (λ f. ⊎_elim
      (λ same. subst (λ n. test n ≡ false) same f)
      (λ other. find_fails m (s + 1) (sym (cond-false (test s) (Some s) (find test (range_with_len (s + 1) m)) f) ∙ none) j (omega arith) (omega arith))
      (cases_eq s j))
      (cases_Bool (test s))

or_false : (b : Bool) → (b || false) ≡ b
or_false true = refl
or_false false = refl

pub has-push : (listed : List ℕ) (k j : ℕ) → has (listed ++ k ∷ []) j ≡ (has listed j || (k == j))
has-push listed k j = list_any-append (λ m. m == j) listed (k ∷ []) ∙ ap (λ b. has listed j || b) (or_false (k == j))

pub has-push_left : (listed : List ℕ) (k j : ℕ) → has listed j ≡ true → has (listed ++ k ∷ []) j ≡ true
has-push_left listed k j h = has-push listed k j ∙ or_left (has listed j) (k == j) h

pub has-push_same : (listed : List ℕ) (k : ℕ) → has (listed ++ k ∷ []) k ≡ true
has-push_same listed k = has-push listed k k ∙ or_right (has listed k) (k == k) (eq-eqb k k refl)

pub has-push_cases : (listed : List ℕ) (k j : ℕ) → has (listed ++ k ∷ []) j ≡ true → (has listed j ≡ true) ⊎ (k ≡ j)
has-push_cases listed k j h =
    ⊎_elim (λ l. inl l) (λ r. inr (eqb-true k j r)) (or_cases (has listed j) (k == j) (sym (has-push listed k j) ∙ h))
