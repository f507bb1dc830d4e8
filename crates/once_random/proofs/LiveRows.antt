-- What is live, by its roots, its parents and its cuts.
use Rattle.std.proofs.Common.{◌≡◌, ◌⊎◌, ℕ, zero, suc, ◌+◌, ◌<◌, ◌≤◌, Bool, true, false, not, ◌&&◌, ◌||◌, cond, List, [], ◌∷◌, ◌++◌, length, refl, sym, ap, ◌∙◌, subst, arith, true≢false, ⊎_elim, inl, inr, ◌==◌}
use Rattle.std.proofs.lemmas.Bool.{cases_Bool, cond-true, cond-false, cases_lt, cases_eq, and_parts, and_from, or_cases, or_parts, or_left, or_right, ne_eqb, not-true, both_ways}
use Rattle.std.proofs.Math.Bool.{or_assoc}
use Rattle.expr_table.specs.declared.node.Node.{Node}
use Rattle.expr_table.specs.Table.{node_at, sides, has}
use Rattle.once_random.specs.Live.{AreLower, reached, is_live, AreRows, IsClosed, IsLeastClosed}

pub has-++ : (xs ys : List ℕ) (r : ℕ) → has (xs ++ ys) r ≡ (has xs r || has ys r)
has-++ [] ys r = refl
has-++ (x ∷ xs) ys r = ap (λ b. (x == r) || b) (has-++ xs ys r) ∙ sym (or_assoc (x == r) (has xs r) (has ys r))

pub has-append_left : (xs ys : List ℕ) (r : ℕ) → has xs r ≡ true → has (xs ++ ys) r ≡ true
has-append_left [] ys r h = absurd (true≢false (sym h))
has-append_left (x ∷ xs) ys r h = ⊎_elim (λ e. or_left (x == r) (has (xs ++ ys) r) e) (λ e. or_right (x == r) (has (xs ++ ys) r) (has-append_left xs ys r e)) (or_cases (x == r) (has xs r) h)

pub has-append_right : (xs ys : List ℕ) (r : ℕ) → has ys r ≡ true → has (xs ++ ys) r ≡ true
has-append_right [] ys r h = h
has-append_right (x ∷ xs) ys r h = or_right (x == r) (has (xs ++ ys) r) (has-append_right xs ys r h)

pub has-append : (xs ys : List ℕ) (r : ℕ) → has (xs ++ ys) r ≡ true → (has xs r ≡ true) ⊎ (has ys r ≡ true)
has-append [] ys r h = inr h
has-append (x ∷ xs) ys r h = ⊎_elim (λ e. inl (or_left (x == r) (has xs r) e)) (λ e. ⊎_elim (λ f. inl (or_right (x == r) (has xs r) f)) inr (has-append xs ys r e)) (or_cases (x == r) (has (xs ++ ys) r) h)

module _ (nodes : List Node) where
  abbrev pub wants : List ℕ → List ℕ → ℕ → Bool
  wants cuts wanted row = has wanted row && not (has cuts row)

  abbrev pub next : List ℕ → List ℕ → ℕ → List ℕ
  next cuts wanted row = cond (wants cuts wanted row) (sides (node_at nodes row) ++ wanted) wanted

  -- what is wanted stays wanted
  pub next-keeps : (cuts wanted : List ℕ) (row r : ℕ) → has wanted r ≡ true → has (next cuts wanted row) r ≡ true
  next-keeps cuts wanted row r h =
      ⊎_elim (λ e. subst (λ l. has l r ≡ true) (sym (cond-true (wants cuts wanted row) _ _ e)) (has-append_right (sides (node_at nodes row)) wanted r h))
      (λ e. subst (λ l. has l r ≡ true) (sym (cond-false (wants cuts wanted row) _ _ e)) h) (cases_Bool (wants cuts wanted row))

  module _ (earlier : AreLower nodes) where
    pub reached-keeps : (cuts : List ℕ) (k : ℕ) (wanted : List ℕ) (r : ℕ) → has wanted r ≡ true → has (reached nodes cuts k wanted) r ≡ true
    reached-keeps cuts zero wanted r h = h
    reached-keeps cuts (suc row) wanted r h = reached-keeps cuts row (next cuts wanted row) r (next-keeps cuts wanted row r h)

    -- what one row adds: its sides, where it is wanted and not cut
    next-adds : (cuts wanted : List ℕ) (row r : ℕ) → has (next cuts wanted row) r ≡ true
        → (has wanted r ≡ true) ⊎ ((has wanted row ≡ true) × (has cuts row ≡ false) × (has (sides (node_at nodes row)) r ≡ true))
    next-adds cuts wanted row r h =
        ⊎_elim (λ e. let p = and_parts (has wanted row) (not (has cuts row)) e in
        ⊎_elim (λ f. inr (p.0, not-true (has cuts row) p.1, f)) inl
        (has-append (sides (node_at nodes row)) wanted r (subst (λ l. has l r ≡ true) (cond-true (wants cuts wanted row) _ _ e) h)))
        (λ e. inl (subst (λ l. has l r ≡ true) (cond-false (wants cuts wanted row) _ _ e) h)) (cases_Bool (wants cuts wanted row))

    -- rows past those looked at were wanted before
    reached-late : (cuts : List ℕ) (k : ℕ) (wanted : List ℕ) (r : ℕ) → k ≤ r → has (reached nodes cuts k wanted) r ≡ true → has wanted r ≡ true
    reached-late cuts zero wanted r le h = h
    reached-late cuts (suc row) wanted r le h =
        ⊎_elim (λ e. e) (λ e. let low = earlier row r e.2 in absurd (omega arith))
        (next-adds cuts wanted row r (reached-late cuts row (next cuts wanted row) r (omega arith) h))

    -- the sides of what is reached and not cut are reached
    reached-closed : (cuts : List ℕ) (k : ℕ) (wanted : List ℕ) (p s : ℕ) → p < k → has (reached nodes cuts k wanted) p ≡ true → has cuts p ≡ false
        → has (sides (node_at nodes p)) s ≡ true → has (reached nodes cuts k wanted) s ≡ true
    reached-closed cuts zero wanted p s lt h uncut side = absurd (omega arith)
    reached-closed cuts (suc row) wanted p s lt h uncut side =
        ⊎_elim (λ l. reached-closed cuts row (next cuts wanted row) p s l h uncut side)
        (λ l. let same : p ≡ row = omega arith in
        let late = reached-late cuts row (next cuts wanted row) p l h in
        let was : has wanted p ≡ true = ⊎_elim (λ e. e) (λ e. let low = earlier row p e.2 in absurd (omega arith)) (next-adds cuts wanted row p late) in
        let test : wants cuts wanted row ≡ true = subst (λ q. wants cuts wanted q ≡ true) same (and_from (has wanted p) (not (has cuts p)) was (ap not uncut)) in
        reached-keeps cuts row (next cuts wanted row) s
        (subst (λ l. has l s ≡ true) (sym (cond-true (wants cuts wanted row) _ _ test))
        (has-append_left (sides (node_at nodes row)) wanted s (subst (λ q. has (sides (node_at nodes q)) s ≡ true) same side))))
        (cases_lt p row)

    -- what is reached was wanted, or is a side of a row that is reached and not cut
    reached-from : (cuts : List ℕ) (k : ℕ) (wanted : List ℕ) (s : ℕ) → has (reached nodes cuts k wanted) s ≡ true
        → (has wanted s ≡ true) ⊎ ((p : ℕ) × (p < k) × (has (reached nodes cuts k wanted) p ≡ true) × (has cuts p ≡ false) × (has (sides (node_at nodes p)) s ≡ true))
    reached-from cuts zero wanted s h = inl h
    reached-from cuts (suc row) wanted s h =
        ⊎_elim (λ e. ⊎_elim inl
        (λ f. inr (row, omega arith, reached-keeps cuts row (next cuts wanted row) row (next-keeps cuts wanted row row f.0), f.1, f.2))
        (next-adds cuts wanted row s e))
        (λ e. inr (e.0, omega arith, e.2, e.3, e.4))
        (reached-from cuts row (next cuts wanted row) s h)

    module _ (e : ℕ) (cuts : List ℕ) where
      -- with one more cut, no more is reached
      reached-fewer : (k : ℕ) (less more : List ℕ) → ((r : ℕ) → has less r ≡ true → has more r ≡ true) → (r : ℕ) → has (reached nodes (e ∷ cuts) k less) r ≡ true → has (reached nodes cuts k more) r ≡ true
      reached-fewer zero less more h r at = h r at
      reached-fewer (suc row) less more h r at =
          reached-fewer row (next (e ∷ cuts) less row) (next cuts more row)
          (λ s f. ⊎_elim (λ g. next-keeps cuts more row s (h s g))
          (λ g. let uncut = or_parts (e == row) (has cuts row) g.1 in
          let test : wants cuts more row ≡ true = and_from (has more row) (not (has cuts row)) (h row g.0) (ap not uncut.1) in
          subst (λ l. has l s ≡ true) (sym (cond-true (wants cuts more row) _ _ test)) (has-append_left (sides (node_at nodes row)) more s g.2))
          (next-adds (e ∷ cuts) less row s f))
          r at

      -- a cut of a row that is not reached changes nothing
      reached-same : (k : ℕ) (wanted : List ℕ) → has (reached nodes cuts k wanted) e ≡ false → reached nodes (e ∷ cuts) k wanted ≡ reached nodes cuts k wanted
      reached-same zero wanted h = refl
      reached-same (suc row) wanted h =
          ap (reached nodes (e ∷ cuts) row) (ap (λ b. cond b (sides (node_at nodes row) ++ wanted) wanted) (tests row (cases_eq e row)))
          ∙ reached-same row (next cuts wanted row) h
        where
          unwanted : (q : ℕ) → e ≡ q → has wanted q ≡ false
          unwanted q same = ⊎_elim (λ t. absurd (both_ways _ h (reached-keeps cuts (suc row) wanted e (subst (λ q. has wanted q ≡ true) (sym same) t)))) (λ t. t) (cases_Bool (has wanted q))

          tests : (q : ℕ) → (e ≡ q) ⊎ (e ≡ q → ⊥) → wants (e ∷ cuts) wanted q ≡ wants cuts wanted q
          tests q (inl same) = ap (λ b. b && not (has (e ∷ cuts) q)) (unwanted q same) ∙ sym (ap (λ b. b && not (has cuts q)) (unwanted q same))
          tests q (inr other) = ap (λ b. has wanted q && not (b || has cuts q)) (ne_eqb e q other)

    module _ (roots : List ℕ) (within : AreRows nodes roots) where
      pub live-root : (cuts : List ℕ) (r : ℕ) → has roots r ≡ true → is_live nodes roots cuts r ≡ true
      unfolding is_live
      live-root cuts r h = reached-keeps cuts (length nodes) roots r h

      pub live-below : (cuts : List ℕ) (r : ℕ) → is_live nodes roots cuts r ≡ true → r < length nodes
      unfolding is_live
      live-below cuts r h = ⊎_elim (λ l. l) (λ le. within r (reached-late cuts (length nodes) roots r le h)) (cases_lt r (length nodes))

      pub live-side : (cuts : List ℕ) (p s : ℕ) → is_live nodes roots cuts p ≡ true → has cuts p ≡ false → has (sides (node_at nodes p)) s ≡ true → is_live nodes roots cuts s ≡ true
      unfolding is_live
      live-side cuts p s h uncut side =
          let lt : p < length nodes = ⊎_elim (λ l. l) (λ le. within p (reached-late cuts (length nodes) roots p le h)) (cases_lt p (length nodes)) in
          reached-closed cuts (length nodes) roots p s lt h uncut side

      pub live-from : (cuts : List ℕ) (s : ℕ) → is_live nodes roots cuts s ≡ true
          → (has roots s ≡ true) ⊎ ((p : ℕ) × (p < length nodes) × (is_live nodes roots cuts p ≡ true) × (has cuts p ≡ false) × (has (sides (node_at nodes p)) s ≡ true))
      unfolding is_live
      live-from cuts s h = reached-from cuts (length nodes) roots s h

      pub live-fewer : (e : ℕ) (cuts : List ℕ) (r : ℕ) → is_live nodes roots (e ∷ cuts) r ≡ true → is_live nodes roots cuts r ≡ true
      unfolding is_live
      live-fewer e cuts r h = reached-fewer e cuts (length nodes) roots roots (λ _ f. f) r h

      pub live-same : (e : ℕ) (cuts : List ℕ) → is_live nodes roots cuts e ≡ false → (r : ℕ) → is_live nodes roots (e ∷ cuts) r ≡ is_live nodes roots cuts r
      unfolding is_live
      live-same e cuts h r = ap (λ l. has l r) (reached-same e cuts (length nodes) roots h)

      -- each closed set holds what is live, from the last row to the first
      live-held : (cuts : List ℕ) (other : ℕ → Bool) → IsClosed nodes roots cuts other → (fuel r : ℕ) → length nodes ≤ r + fuel → is_live nodes roots cuts r ≡ true → other r ≡ true
      live-held cuts other closed zero r le l = let lt = live-below cuts r l in absurd (omega arith)
      live-held cuts other closed (suc fuel) r le l =
          ⊎_elim (λ t. closed.each_root r t)
          (λ t. let low = earlier t.0 r t.4 in
          closed.each_side t.0 r (live-held cuts other closed fuel t.0 (omega arith) t.2) (ap not t.3) t.4)
          (live-from cuts r l)

      pub live-least : (cuts : List ℕ) → IsLeastClosed nodes roots cuts (is_live nodes roots cuts)
      live-least cuts = record {
        closed = record {
          each_root = live-root cuts;
          each_side = λ row side l uncut s. live-side cuts row side l (not-true (has cuts row) uncut) s;
        };
        least = λ other closed row l. live-held cuts other closed (length nodes) row (omega arith) l;
      }
