-- The least chain is a chain, and no live row may be cut after it.
use Rattle.std.proofs.Common.{◌≡◌, ℕ, zero, suc, ◌+◌, ◌<◌, ◌≤◌, Bool, true, false, not, ◌==◌, if◌then◌else◌, List, [], ◌∷◌, length, Option, None, Some, refl, sym, ap, ◌∙◌, subst, arith, true≢false, ⊎_elim}
use Rattle.std.specs.Option.{option_or, option_map_or}
use Rattle.std.proofs.lemmas.Bool.{cases_Bool, cases_lt, cond-true, cond-false, and_parts, and_right, or_left, or_parts, eq-eqb, not-true, both_ways}
use Rattle.std.proofs.lemmas.List.{get_or_past}
use Rattle.expr_table.specs.declared.node.Node.{Node}
use Rattle.expr_table.specs.declared.node.Node.TheVariants as node
use Rattle.expr_table.specs.Table.{node_at, has}
use Rattle.once_random.specs.Numbers.{count_below, least_below}
use Rattle.once_random.specs.Live.{is_live}
use Rattle.once_random.specs.Cuts.{is_allowed, is_masked, may_be_cut, next_cut, least_after, least_chain, IsChain, IsSaturated}
use Rattle.once_random.proofs.Counting.{count_below-le}
use Rattle.once_random.proofs.Alone.{count_some}

-- what the least number that passes is
module _ (test : ℕ → Bool) where
  pub passes_at : (n e : ℕ) → least_below n test ≡ Some e → (e < n) × (test e ≡ true)
  passes_at zero e is = cc
  passes_at (suc n) e is = go (λ d h. passes_at n d h) (least_below n test) refl
    where
      go : ((d : ℕ) → least_below n test ≡ Some d → (d < n) × (test d ≡ true)) → (o : Option ℕ) → least_below n test ≡ o → (e < suc n) × (test e ≡ true)
      go before (Some d) here =
          let same : d ≡ e = let f = ap (λ o. option_or o (if test n then Some n else None)) here in cc in
          let h = before d here in
          (let l : d < n = h.0 in omega arith, subst (λ k. test k ≡ true) same h.1)
      go before None here =
          let last : (if test n then Some n else None) ≡ Some e = sym (ap (λ o. option_or o (if test n then Some n else None)) here) ∙ is in
          ⊎_elim
          (λ t. let s : Some n ≡ Some e = sym (cond-true (test n) (Some n) None t) ∙ last in let same : n ≡ e = cc in (omega arith, subst (λ k. test k ≡ true) same t))
          (λ f. let s : None ≡ Some e = sym (cond-false (test n) (Some n) None f) ∙ last in absurd (cc))
          (cases_Bool (test n))

  pub fails_below : (n : ℕ) → least_below n test ≡ None → (i : ℕ) → i < n → test i ≡ false
  fails_below zero none i l = absurd (omega arith)
  fails_below (suc n) none i l = go (λ h k. fails_below n h i k) (least_below n test) refl
    where
      go : (least_below n test ≡ None → i < n → test i ≡ false) → (o : Option ℕ) → least_below n test ≡ o → test i ≡ false
      go before (Some d) here = let f : Some d ≡ None = sym (ap (λ o. option_or o (if test n then Some n else None)) here) ∙ none in absurd (cc)
      go before None here =
          let last : (if test n then Some n else None) ≡ None = sym (ap (λ o. option_or o (if test n then Some n else None)) here) ∙ none in
          ⊎_elim (λ lt. before here lt)
          (λ ge. let same : n ≡ i = omega arith in
          subst (λ k. test k ≡ false) same
          (⊎_elim (λ t. let s : Some n ≡ None = sym (cond-true (test n) (Some n) None t) ∙ last in absurd (cc)) (λ f. f) (cases_Bool (test n))))
          (cases_lt i n)

one_le : (a b : Bool) → (b ≡ true → a ≡ true) → (if b then 1 else 0) ≤ (if a then 1 else 0)
one_le a false h = omega arith
one_le true true h = omega arith
one_le false true h = absurd (true≢false (sym (h refl)))

add_le : (a b c d : ℕ) → a ≤ c → b ≤ d → a + b ≤ c + d
add_le a b c d h k = omega arith

add_lt : (a b c d : ℕ) → a ≤ c → b ≡ 0 → d ≡ 1 → a + b < c + d
add_lt a b c d h k l = omega arith

lt_add : (a b c d : ℕ) → a < c → b ≤ d → a + b < c + d
lt_add a b c d h k = omega arith

-- a test that gives another counts no more
pub count_mono : (n : ℕ) (f g : ℕ → Bool) → ((i : ℕ) → g i ≡ true → f i ≡ true) → count_below n g ≤ count_below n f
count_mono zero f g h = omega arith
count_mono (suc n) f g h = add_le _ _ _ _ (count_mono n f g h) (one_le (f n) (g n) (h n))

-- and fewer, where one number no longer passes
count_less : (n e : ℕ) (f g : ℕ → Bool) → e < n → ((i : ℕ) → g i ≡ true → f i ≡ true) → f e ≡ true → g e ≡ false → count_below n g < count_below n f
count_less zero e f g l h fe ge = absurd (omega arith)
count_less (suc n) e f g l h fe ge =
    ⊎_elim (λ lt. lt_add _ _ _ _ (count_less n e f g lt h fe ge) (one_le (f n) (g n) (h n)))
    (λ le. let same : e ≡ n = omega arith in
    add_lt _ _ _ _ (count_mono n f g h) (cond-false (g n) 1 0 (subst (λ k. g k ≡ false) same ge)) (cond-true (f n) 1 0 (subst (λ k. f k ≡ true) same fe)))
    (cases_lt e n)

module _ (nodes : List Node) (roots : List ℕ) where
  -- how many rows are not cut
  abbrev uncut : List ℕ → ℕ
  uncut cuts = count_below (length nodes) (λ row. not (has cuts row))

  may_be : (cuts : List ℕ) (e : ℕ) → next_cut nodes roots cuts ≡ Some e → (e < length nodes) × (may_be_cut nodes roots cuts e ≡ true)
  unfolding next_cut
  may_be cuts e is = passes_at (may_be_cut nodes roots cuts) (length nodes) e is

  allowed_at : (cuts : List ℕ) (e : ℕ) → may_be_cut nodes roots cuts e ≡ true → is_allowed nodes roots cuts e ≡ true
  allowed_at cuts e h = (and_parts (is_live nodes roots cuts e) (is_allowed nodes roots cuts e) h).1

  uncut_at : (cuts : List ℕ) (e : ℕ) → may_be_cut nodes roots cuts e ≡ true → has cuts e ≡ false
  uncut_at cuts e h = not-true (has cuts e) (and_parts (not (has cuts e)) (is_masked nodes roots cuts e (node_at nodes e)) (allowed_at cuts e h)).0

  -- a row past the table is no Xor
  past : (cuts : List ℕ) (e : ℕ) → length nodes ≤ e → may_be_cut nodes roots cuts e ≡ false
  past cuts e le =
      and_right (is_live nodes roots cuts e) (is_allowed nodes roots cuts e)
      (and_right (not (has cuts e)) (is_masked nodes roots cuts e (node_at nodes e)) (ap (is_masked nodes roots cuts e) (get_or_past nodes e node.Zero le)))

  none_next : (cuts : List ℕ) → next_cut nodes roots cuts ≡ None → IsSaturated nodes roots cuts
  unfolding next_cut
  none_next cuts none e = ⊎_elim (λ lt. fails_below (may_be_cut nodes roots cuts) (length nodes) none e lt) (λ le. past cuts e le) (cases_lt e (length nodes))

  fewer_uncut : (cuts : List ℕ) (e : ℕ) → e < length nodes → may_be_cut nodes roots cuts e ≡ true → uncut (e ∷ cuts) < uncut cuts
  fewer_uncut cuts e lt h =
      count_less (length nodes) e (λ row. not (has cuts row)) (λ row. not (has (e ∷ cuts) row)) lt
      (λ row t. ap not (or_parts (e == row) (has cuts row) (not-true (has (e ∷ cuts) row) t)).1)
      (ap not (uncut_at cuts e h))
      (ap not (or_left (e == e) (has cuts e) (eq-eqb e e refl)))

  saturates : (n : ℕ) (cuts : List ℕ) → uncut cuts ≤ n → IsSaturated nodes roots (least_after nodes roots n cuts)
  saturates zero cuts few = λ e.
      ⊎_elim
      (λ t.
      let uncut_e = uncut_at cuts e t in
      ⊎_elim
      (λ lt. let some : 1 ≤ uncut cuts = count_some (λ row. not (has cuts row)) (length nodes) e lt (ap not uncut_e) in absurd (omega arith))
      (λ le. absurd (both_ways _ (past cuts e le) t))
      (cases_lt e (length nodes)))
      (λ f. f)
      (cases_Bool (may_be_cut nodes roots cuts e))
  saturates (suc n) cuts few = go (λ e h. saturates n (e ∷ cuts) h) (next_cut nodes roots cuts) refl
    where
      go : ((e : ℕ) → uncut (e ∷ cuts) ≤ n → IsSaturated nodes roots (least_after nodes roots n (e ∷ cuts))) → (o : Option ℕ) → next_cut nodes roots cuts ≡ o → IsSaturated nodes roots (option_map_or (λ e. least_after nodes roots n (e ∷ cuts)) o cuts)
      go after None is = none_next cuts is
      go after (Some e) is = let h = may_be cuts e is in let fewer = fewer_uncut cuts e h.0 h.1 in after e (omega arith)

  stays_chain : (n : ℕ) (cuts : List ℕ) → IsChain nodes roots cuts → IsChain nodes roots (least_after nodes roots n cuts)
  stays_chain zero cuts chain = chain
  stays_chain (suc n) cuts chain = go (λ e h. stays_chain n (e ∷ cuts) h) (next_cut nodes roots cuts) refl
    where
      go : ((e : ℕ) → IsChain nodes roots (e ∷ cuts) → IsChain nodes roots (least_after nodes roots n (e ∷ cuts))) → (o : Option ℕ) → next_cut nodes roots cuts ≡ o → IsChain nodes roots (option_map_or (λ e. least_after nodes roots n (e ∷ cuts)) o cuts)
      go after None is = chain
      go after (Some e) is = let h = may_be cuts e is in after e (allowed_at cuts e h.1, chain)

  pub least_is_chain : IsChain nodes roots (least_chain nodes roots)
  unfolding least_chain
  least_is_chain = stays_chain (length nodes) [] tt

  pub least_is_saturated : IsSaturated nodes roots (least_chain nodes roots)
  unfolding least_chain
  least_is_saturated = saturates (length nodes) [] (count_below-le (length nodes) (λ row. not (has [] row)))
