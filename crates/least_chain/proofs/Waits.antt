-- Which rows wait to be cut.
use Rattle.std.proofs.Common.{◌≡◌, ◌⊎◌, ℕ, ◌<◌, ◌≤◌, true, false, not, ◌||◌, ◌==◌, List, [], ◌∷◌, ◌++◌, length, None, Some, refl, sym, ap, ◌∙◌, subst, true≢false, ⊎_elim, inl, inr, arith}
use Rattle.std.proofs.lemmas.Bool.{and_parts, and_from, or_cases, or_left, or_right, or_parts, eqb-true, eq-eqb, not-true, both_ways}
use Rattle.expr_table.specs.declared.node.Node.{Node}
use Rattle.expr_table.specs.declared.node.Node.TheVariants as node
use Rattle.expr_table.specs.declared.node.Row.{Row}
use Rattle.expr_table.specs.Table.{node_at, has}
use Rattle.once_random.specs.Cuts.{is_xor, is_fresh, has_no_parent_but, masks, is_masked, is_allowed, may_be_cut, next_cut}
use Rattle.once_random.specs.Live.{AreLower, is_live, is_live_parent, AreRows, live_parents}
use Rattle.once_random.proofs.Facts.{has_first, has_left, has_right}
use Rattle.live_rows.specs.Shown.{serves}
use Rattle.live_rows.proofs.Facts.{taken-has}
use Rattle.least_chain.specs.Waiting.{AreWaiting}
use Rattle.least_chain.proofs.Least.{none_passes, least_passes}
use Rattle.least_chain.proofs.Parents.{parent_parts, parent_from, parent_before, counted_alone, masks_serves, same_parent, serves_allowed, allowed-more}

module _ (nodes : List Node) (lower : AreLower nodes) (roots : List ℕ) (within : AreRows nodes roots) where
  -- where all that serve stand alone, none need wait
  pub waiting_begun : (cuts alone : List ℕ) → ((row : ℕ) → serves nodes roots cuts row ≡ true → has alone row ≡ true) → AreWaiting nodes roots cuts alone []
  waiting_begun cuts alone each = record {
    each = λ side e parent h xor. inl (each side (sym (masks_serves nodes lower roots within cuts side e parent) ∙ h));
    allowed = λ e h _. absurd (true≢false (sym h));
    rows = λ e h. absurd (true≢false (sym h));
  }

  -- a row was taken out of those alone
  module _ (cuts alone waiting : List ℕ) (row : ℕ) (is : AreWaiting nodes roots cuts (row ∷ alone) waiting) where
    still : (side e : ℕ) → is_live_parent nodes roots cuts side e ≡ true → masks nodes roots cuts e side ≡ true → is_xor (node_at nodes e) ≡ true
        → (row ≡ side) ⊎ ((has alone side ≡ true) ⊎ (has waiting e ≡ true))
    still side e parent h xor =
        ⊎_elim (λ a. ⊎_elim (λ s. inl (eqb-true row side s)) (λ t. inr (inl t)) (or_cases (row == side) (has alone side) a)) (λ w. inr (inr w)) (is.each side e parent h xor)

    -- its count of live parents is not 1
    pub waiting_idle : (live_parents nodes roots cuts row ≡ 1 → ⊥) → AreWaiting nodes roots cuts alone waiting
    waiting_idle idle = record {
      each = λ side e parent h xor.
          ⊎_elim
          (λ same.
          let m = subst (λ s. masks nodes roots cuts e s ≡ true) (sym same) h in
          let p = subst (λ s. is_live_parent nodes roots cuts s e ≡ true) (sym same) parent in
          let rest = and_parts (not (has roots row)) (has_no_parent_but nodes roots cuts e row) (and_parts (is_fresh nodes cuts row) _ m).1 in
          absurd (idle (eqb-true _ 1 (sym (counted_alone nodes lower roots within cuts row e p) ∙ rest.1))))
          (λ later. later)
          (still side e parent h xor);
      allowed = is.allowed;
      rows = is.rows;
    }

    -- its only live parent is no Xor
    pub waiting_other : (p : ℕ) → is_live_parent nodes roots cuts row p ≡ true → is_xor (node_at nodes p) ≡ false → AreWaiting nodes roots cuts alone waiting
    waiting_other p only other = record {
      each = λ side e parent h xor.
          ⊎_elim
          (λ same.
          let is = same_parent nodes lower roots within cuts row e p (subst (λ s. masks nodes roots cuts e s ≡ true) (sym same) h) only in
          absurd (both_ways (is_xor (node_at nodes e)) (subst (λ q. is_xor (node_at nodes q) ≡ false) is other) xor))
          (λ later. later)
          (still side e parent h xor);
      allowed = is.allowed;
      rows = is.rows;
    }

    -- its only live parent waits now
    pub waiting_more : (p : ℕ) (a b : Row) (new : List ℕ) → p < length nodes → node_at nodes p ≡ node.Xor a b → is_live_parent nodes roots cuts row p ≡ true → serves nodes roots cuts row ≡ true
        → ((q : ℕ) → has new q ≡ (p == q || has waiting q)) → AreWaiting nodes roots cuts alone new
    waiting_more p a b new lt xor_is only served more = record {
      each = λ side e parent h xor.
          ⊎_elim
          (λ same.
          let is = same_parent nodes lower roots within cuts row e p (subst (λ s. masks nodes roots cuts e s ≡ true) (sym same) h) only in
          inr (more e ∙ or_left (p == e) (has waiting e) (eq-eqb p e is)))
          (λ later. ⊎_elim inl (λ w. inr (more e ∙ or_right (p == e) (has waiting e) w)) later)
          (still side e parent h xor);
      allowed = λ e h uncut.
          ⊎_elim
          (λ same. subst (λ q. is_allowed nodes roots cuts q ≡ true) (eqb-true p e same) (serves_allowed nodes lower roots within cuts row p a b xor_is only served))
          (λ w. is.allowed e w uncut)
          (or_cases (p == e) (has waiting e) (sym (more e) ∙ h));
      rows = λ e h.
          ⊎_elim
          (λ same. subst (λ q. q < length nodes) (eqb-true p e same) lt)
          (λ w. is.rows e w)
          (or_cases (p == e) (has waiting e) (sym (more e) ∙ h));
    }

  -- the row at the end of those alone may stand at their head
  pub waiting_turned : (cuts old new waiting : List ℕ) (row : ℕ) → old ≡ new ++ row ∷ [] → AreWaiting nodes roots cuts old waiting → AreWaiting nodes roots cuts (row ∷ new) waiting
  waiting_turned cuts old new waiting row is before = record {
    each = λ side e parent h xor. ⊎_elim (λ a. inl (sym (taken-has old new row is side) ∙ a)) inr (before.each side e parent h xor);
    allowed = before.allowed;
    rows = before.rows;
  }

  -- the order of the rows that wait does not matter
  pub waiting_same : (cuts alone old new : List ℕ) → ((e : ℕ) → has old e ≡ has new e) → AreWaiting nodes roots cuts alone old → AreWaiting nodes roots cuts alone new
  waiting_same cuts alone old new same before = record {
    each = λ side e parent h xor. ⊎_elim inl (λ w. inr (sym (same e) ∙ w)) (before.each side e parent h xor);
    allowed = λ e h. before.allowed e (same e ∙ h);
    rows = λ e h. before.rows e (same e ∙ h);
  }

  -- with none alone, each live row that may be cut waits
  pub may_be_cut_waits : (cuts waiting : List ℕ) → AreWaiting nodes roots cuts [] waiting → (e : ℕ) → may_be_cut nodes roots cuts e ≡ true → has waiting e ≡ true
  may_be_cut_waits cuts waiting is e h =
      let parts = and_parts (is_live nodes roots cuts e) (is_allowed nodes roots cuts e) h in
      let allowed = and_parts (not (has cuts e)) (is_masked nodes roots cuts e (node_at nodes e)) parts.1 in
      masked (node_at nodes e) refl parts.0 (not-true (has cuts e) allowed.0) allowed.1
    where
      waits : (side : ℕ) → is_live_parent nodes roots cuts side e ≡ true → masks nodes roots cuts e side ≡ true → is_xor (node_at nodes e) ≡ true → has waiting e ≡ true
      waits side parent m xor = ⊎_elim (λ none. absurd (true≢false (sym none))) (λ w. w) (is.each side e parent m xor)

      masked : (n : Node) → node_at nodes e ≡ n → is_live nodes roots cuts e ≡ true → has cuts e ≡ false → is_masked nodes roots cuts e n ≡ true → has waiting e ≡ true
      masked (node.Xor a b) at l uncut m =
          let xor : is_xor (node_at nodes e) ≡ true = ap is_xor at in
          ⊎_elim
          (λ t. waits a.0 (parent_from nodes lower roots within cuts a.0 e l uncut (has_left (node_at nodes e) a b (inr at))) t xor)
          (λ t. waits b.0 (parent_from nodes lower roots within cuts b.0 e l uncut (has_right (node_at nodes e) a b (inr at))) t xor)
          (or_cases (masks nodes roots cuts e a.0) (masks nodes roots cuts e b.0) m)
      masked node.Zero at l uncut m = absurd (true≢false (sym m))
      masked node.One at l uncut m = absurd (true≢false (sym m))
      masked (node.Input i) at l uncut m = absurd (true≢false (sym m))
      masked (node.Random i) at l uncut m = absurd (true≢false (sym m))
      masked (node.And a b) at l uncut m = absurd (true≢false (sym m))

  -- with none that waits, no live row may be cut
  pub none_next : (cuts : List ℕ) → AreWaiting nodes roots cuts [] [] → next_cut nodes roots cuts ≡ None
  unfolding next_cut
  none_next cuts is = none_passes (may_be_cut nodes roots cuts) (length nodes) (λ e h. true≢false (sym (may_be_cut_waits cuts [] is e h)))

  -- the turn of the least row that waits
  module _ (cuts waiting : List ℕ) (row : ℕ) (is : AreWaiting nodes roots cuts [] (row ∷ waiting)) where
    -- it is not live, or it is cut
    pub waiting_spent : (is_live nodes roots cuts row ≡ true → has cuts row ≡ false → ⊥) → AreWaiting nodes roots cuts [] waiting
    waiting_spent spent = record {
      each = λ side e parent h xor.
          ⊎_elim inl
          (λ w. ⊎_elim
          (λ same.
          let parts = parent_parts nodes lower roots within cuts side e parent in
          absurd (spent (subst (λ q. is_live nodes roots cuts q ≡ true) (sym (eqb-true row e same)) parts.0) (subst (λ q. has cuts q ≡ false) (sym (eqb-true row e same)) parts.1)))
          inr
          (or_cases (row == e) (has waiting e) w))
          (is.each side e parent h xor);
      allowed = λ e h. is.allowed e (or_right (row == e) (has waiting e) h);
      rows = λ e h. is.rows e (or_right (row == e) (has waiting e) h);
    }

    -- it is the next cut
    pub least_next : ((e : ℕ) → has waiting e ≡ true → row ≤ e) → is_live nodes roots cuts row ≡ true → has cuts row ≡ false → next_cut nodes roots cuts ≡ Some row
    unfolding next_cut
    least_next least l uncut =
        least_passes (may_be_cut nodes roots cuts) (length nodes) row (is.rows row (has_first row waiting))
        (and_from (is_live nodes roots cuts row) (is_allowed nodes roots cuts row) l (is.allowed row (has_first row waiting) uncut))
        (λ e h. ⊎_elim (λ same. subst (λ q. row ≤ q) (eqb-true row e same) (le_self row)) (λ w. least e w)
        (or_cases (row == e) (has waiting e) (may_be_cut_waits cuts (row ∷ waiting) is e h)))
      where
        le_self : (n : ℕ) → n ≤ n
        le_self n = omega arith

    -- and was cut
    pub waiting_cut : (alone : List ℕ) → ((q : ℕ) → serves nodes roots (row ∷ cuts) q ≡ true → (serves nodes roots cuts q ≡ true) ⊎ (has alone q ≡ true))
        → AreWaiting nodes roots (row ∷ cuts) alone waiting
    waiting_cut alone gains = record {
      each = λ side e parent h xor.
          let before = parent_before nodes lower roots within row cuts side e parent in
          ⊎_elim
          (λ s. ⊎_elim (λ none. absurd (true≢false (sym none)))
          (λ w. ⊎_elim (λ same. absurd (before.1 (eqb-true row e same))) inr (or_cases (row == e) (has waiting e) w))
          (is.each side e before.0 (masks_serves nodes lower roots within cuts side e before.0 ∙ s) xor))
          inl
          (gains side (sym (masks_serves nodes lower roots within (row ∷ cuts) side e parent) ∙ h));
      allowed = λ e h uncut.
          let parts = or_parts (row == e) (has cuts e) uncut in
          allowed-more nodes lower roots within row cuts e (is.allowed e (or_right (row == e) (has waiting e) h) parts.1) uncut;
      rows = λ e h. is.rows e (or_right (row == e) (has waiting e) h);
    }
