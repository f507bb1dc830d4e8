-- The least number that passes.
use Rattle.std.proofs.Common.{◌≡◌, ℕ, zero, suc, ◌<◌, Bool, true, false, if◌then◌else◌, Some, None, sym, ap, ◌∙◌, subst, arith, ⊎_elim}
use Rattle.std.specs.Option.{option_or}
use Rattle.std.proofs.lemmas.Bool.{cases_lt, cond-true, cond-false}
use Rattle.once_random.specs.Numbers.{least_below}

module _ (test : ℕ → Bool) where
  pub none_more : (i next : ℕ) → next ≡ suc i → least_below i test ≡ None → test i ≡ false → least_below next test ≡ None
  none_more i next is none fails =
      subst (λ n. least_below n test ≡ None) (sym is)
      (ap (λ o. option_or o (if test i then Some i else None)) none ∙ cond-false (test i) (Some i) None fails)

  pub found_at : (n i : ℕ) → i < n → least_below i test ≡ None → test i ≡ true → least_below n test ≡ Some i
  found_at zero i l none passes = absurd (omega arith)
  found_at (suc n) i l none passes =
      ⊎_elim
      (λ lt. ap (λ o. option_or o (if test n then Some n else None)) (found_at n i lt none passes))
      (λ ge. let e : n ≡ i = omega arith in
      ap (λ k. least_below (suc k) test) e
      ∙ ap (λ o. option_or o (if test i then Some i else None)) none
      ∙ cond-true (test i) (Some i) None passes)
      (cases_lt i n)
