-- The least line of the cells so far.
use Rattle.std.proofs.Common.{◌≡◌, ◌<◌, ◌≤◌, ◌⊎◌, ℕ, ◌+◌, min, Bool, true, false, length, Option, Some, None, sym, ap, ◌∙◌, subst, arith, inl, inr, ⊎_elim}
use Rattle.std.proofs.lemmas.Bool.{cases_lt, both_ways}
use Rattle.circuit_types.specs.declared.nets.Nets.{Nets}
use Rattle.circuit_types.specs.Causes.{AtCell}
use Rattle.circuit_types.specs.DataSources.{cell_at}
use Rattle.level_unroll.specs.Lines.{IsLeastLine, AtCellBelow, lesser_line}

module _ (nets : Nets) (test : ℕ → Bool) where
  -- a cell below the next place is below this one, or is here
  last_cases : (i next k : ℕ) → next ≡ i + 1 → k < next → ((k < i) ⊎ (k ≡ i))
  last_cases i next k is lt = ⊎_elim (λ l. inl l) (λ ge. inr (omega arith)) (cases_lt k i)

  pub least_none : IsLeastLine (AtCellBelow nets test 0) None
  least_none line at = absurd (none at.0 at.1)
    where
      none : (k : ℕ) → k < 0 → ⊥
      none k l = omega arith

  pub least_yes : (i next line : ℕ) (least : Option ℕ) → next ≡ i + 1 → test i ≡ true → (cell_at nets i).line ≡ line → IsLeastLine (AtCellBelow nets test i) least → IsLeastLine (AtCellBelow nets test next) (Some (lesser_line least line))
  least_yes i next line None is t here old = record {
    here = (i, omega arith, t, here);
    least = λ other at.
        ⊎_elim
        (λ l. absurd (old other (at.0, l, at.2, at.3)))
        (λ e. let same : line ≡ other = sym here ∙ sym (ap (λ n. (cell_at nets n).line) e) ∙ at.3 in omega arith)
        (last_cases i next at.0 is at.1);
  }
  least_yes i next line (Some l) is t here old = record {
    here =
        ⊎_elim
        (λ lt. let m : line ≡ min line l = omega arith in subst (AtCellBelow nets test next) m (i, omega arith, t, here))
        (λ ge. let m : l ≡ min line l = omega arith in subst (AtCellBelow nets test next) m (grow old.here))
        (cases_lt line l);
    least = λ other at.
        ⊎_elim
        (λ b. let le = old.least other (at.0, b, at.2, at.3) in min_le line l other (inr le))
        (λ e. let same : line ≡ other = sym here ∙ sym (ap (λ n. (cell_at nets n).line) e) ∙ at.3 in min_le line l other (inl (le_same line other same)))
        (last_cases i next at.0 is at.1);
  }
    where
      grow : AtCellBelow nets test i l → AtCellBelow nets test next l
      grow at = (at.0, le_next at.0 at.1, at.2, at.3)
        where
          le_next : (k : ℕ) → k < i → k < next
          le_next k b = omega arith

      le_same : (a b : ℕ) → a ≡ b → a ≤ b
      le_same a b e = omega arith

      min_le : (a b c : ℕ) → ((a ≤ c) ⊎ (b ≤ c)) → min a b ≤ c
      min_le a b c h = ⊎_elim (λ x. omega arith) (λ y. omega arith) h

  pub least_no : (i next : ℕ) (least : Option ℕ) → next ≡ i + 1 → test i ≡ false → IsLeastLine (AtCellBelow nets test i) least → IsLeastLine (AtCellBelow nets test next) least
  least_no i next None is f old = λ other at.
      ⊎_elim
      (λ l. old other (at.0, l, at.2, at.3))
      (λ e. both_ways (test i) f (subst (λ n. test n ≡ true) e at.2))
      (last_cases i next at.0 is at.1)
  least_no i next (Some l) is f old = record {
    here = (old.here.0, le_next old.here.0 old.here.1, old.here.2, old.here.3);
    least = λ other at.
        ⊎_elim
        (λ b. old.least other (at.0, b, at.2, at.3))
        (λ e. absurd (both_ways (test i) f (subst (λ n. test n ≡ true) e at.2)))
        (last_cases i next at.0 is at.1);
  }
    where
      le_next : (k : ℕ) → k < i → k < next
      le_next k b = omega arith

  pub least_all : (i : ℕ) (least : Option ℕ) → i ≤ length nets.cells → length nets.cells ≤ i → IsLeastLine (AtCellBelow nets test i) least → IsLeastLine (AtCell nets test) least
  least_all i least a b old = let e : i ≡ length nets.cells = omega arith in subst (λ n. IsLeastLine (AtCellBelow nets test n) least) e old

-- tests that agree at each cell have the same least line
pub same_least : (nets : Nets) (f g : ℕ → Bool) → ((k : ℕ) → k < length nets.cells → f k ≡ g k) → (least : Option ℕ) → IsLeastLine (AtCell nets f) least → IsLeastLine (AtCell nets g) least
same_least nets f g same None old = λ line at. old line (at.0, at.1, same at.0 at.1 ∙ at.2, at.3)
same_least nets f g same (Some l) old = record {
  here = (old.here.0, old.here.1, sym (same old.here.0 old.here.1) ∙ old.here.2, old.here.3);
  least = λ other at. old.least other (at.0, at.1, same at.0 at.1 ∙ at.2, at.3);
}
