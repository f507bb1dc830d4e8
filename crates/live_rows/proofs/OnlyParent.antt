-- Where one number alone passes, it is the exclusive or of those that pass.
use Rattle.std.proofs.Common.{◌≡◌, ℕ, zero, suc, ◌+◌, ◌<◌, Bool, true, if◌then◌else◌, bit_xor, List, length, refl, sym, ap, ◌∙◌, subst, arith, ⊎_elim}
use Rattle.std.specs.Int.Bits.{xor_zero_r}
use Rattle.std.proofs.lemmas.Bool.{cases_Bool, cond-true, cond-false}
use Rattle.expr_table.specs.declared.node.Node.{Node}
use Rattle.once_random.specs.Live.{is_live_parent, live_parents}
use Rattle.once_random.specs.Numbers.{count_below}
use Rattle.live_rows.specs.declared.mark.Mark.{Mark}
use Rattle.live_rows.specs.Marks.{mark_at}
use Rattle.live_rows.specs.Shown.{Shows, mixed_below}

mixed_none : (n : ℕ) (test : ℕ → Bool) → count_below n test ≡ 0 → mixed_below n test ≡ 0
mixed_none zero test none = refl
mixed_none (suc n) test none =
    ⊎_elim
    (λ t. absurd (no _ _ none (cond-true (test n) 1 0 t)))
    (λ f. ap (bit_xor (mixed_below n test)) (cond-false (test n) n 0 f) ∙ xor_zero_r (mixed_below n test) ∙ mixed_none n test (left _ _ none (cond-false (test n) 1 0 f)))
    (cases_Bool (test n))
  where
    no : (a b : ℕ) → a + b ≡ 0 → b ≡ 1 → ⊥
    no a b e f = omega arith

    left : (a b : ℕ) → a + b ≡ 0 → b ≡ 0 → a ≡ 0
    left a b e f = omega arith

mixed_one : (n : ℕ) (test : ℕ → Bool) → count_below n test ≡ 1 → (mixed_below n test < n) × (test (mixed_below n test) ≡ true)
mixed_one zero test one = absurd (omega arith)
mixed_one (suc n) test one =
    ⊎_elim
    (λ t.
    let is : mixed_below (suc n) test ≡ n =
    ap (λ m. bit_xor m (if test n then n else 0)) (mixed_none n test (left _ _ 1 0 one (cond-true (test n) 1 0 t) refl)) ∙ cond-true (test n) n 0 t in
    (subst (λ x. x < suc n) (sym is) (omega arith), subst (λ x. test x ≡ true) (sym is) t))
    (λ f.
    let rest = mixed_one n test (left _ _ 0 1 one (cond-false (test n) 1 0 f) refl) in
    let is : mixed_below (suc n) test ≡ mixed_below n test = ap (bit_xor (mixed_below n test)) (cond-false (test n) n 0 f) ∙ xor_zero_r (mixed_below n test) in
    (subst (λ x. x < suc n) (sym is) (later _ rest.0), subst (λ x. test x ≡ true) (sym is) rest.1))
    (cases_Bool (test n))
  where
    left : (a b k m : ℕ) → a + b ≡ 1 → b ≡ k → m + k ≡ 1 → a ≡ m
    left a b k m e f g = omega arith

    later : (i : ℕ) → i < n → i < suc n
    later i l = omega arith

module _ (nodes : List Node) (roots cuts : List ℕ) (marks : List Mark) (shows : Shows nodes roots cuts marks) (row : ℕ) where
  pub one_parent : (mark_at marks row).parents ≡ 1
      → (live_parents nodes roots cuts row ≡ 1) × ((mark_at marks row).mixed < length nodes) × (is_live_parent nodes roots cuts row (mark_at marks row).mixed ≡ true)
  one_parent one =
      let count = sym (shows.parents row) ∙ one in
      let is = mixed_one (length nodes) (is_live_parent nodes roots cuts row) count in
      (count, subst (λ p. p < length nodes) (sym (shows.mixed row)) is.0, subst (λ p. is_live_parent nodes roots cuts row p ≡ true) (sym (shows.mixed row)) is.1)
