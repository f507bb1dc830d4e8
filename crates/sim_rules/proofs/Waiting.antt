-- Which rows wait while cuts are made; when none waits, no live row may be cut.
use Rattle.std.proofs.Common.{◌≡◌, ◌⊎◌, ℕ, true, false, not, ◌&&◌, ◌||◌, ◌==◌, List, [], ◌∷◌, length, refl, sym, ap, ◌∙◌, subst, true≢false, ⊎_elim, inl, inr}
use Rattle.std.proofs.lemmas.Bool.{cases_Bool, and_parts, and_from, or_cases, or_left, or_right, or_parts, eqb-true, eq-eqb, not-true, both_ways}
use Rattle.expr_table.specs.declared.node.Node.{Node}
use Rattle.expr_table.specs.declared.node.Node.TheVariants as node
use Rattle.expr_table.specs.declared.node.Row.{Row}
use Rattle.expr_table.specs.Table.{node_at, sides, has}
use Rattle.once_random.specs.Cuts.{is_xor, is_fresh, has_no_parent_but, masks, is_masked, is_allowed, may_be_cut, IsSaturated}
use Rattle.once_random.specs.Live.{AreLower, is_live, is_live_parent, AreRows, live_parents}
use Rattle.once_random.proofs.Alone.{alone}
use Rattle.once_random.proofs.Facts.{all_below-at, has_left, has_right, live-below}
use Rattle.live_rows.specs.Shown.{serves}
use Rattle.live_rows.proofs.Facts.{live_parent-fewer}
use Rattle.sim_rules.specs.Cutting.{MaskersWait}

module _ (nodes : List Node) (lower : AreLower nodes) (roots : List ℕ) (within : AreRows nodes roots) where
  -- what a live parent is
  pub parent_parts : (cuts : List ℕ) (side e : ℕ) → is_live_parent nodes roots cuts side e ≡ true
      → (is_live nodes roots cuts e ≡ true) × (has cuts e ≡ false) × (has (sides (node_at nodes e)) side ≡ true)
  parent_parts cuts side e h =
      let parts = and_parts (is_live nodes roots cuts e && not (has cuts e)) (has (sides (node_at nodes e)) side) h in
      let here = and_parts (is_live nodes roots cuts e) (not (has cuts e)) parts.0 in
      (here.0, not-true (has cuts e) here.1, parts.1)

  parent_from : (cuts : List ℕ) (side e : ℕ) → is_live nodes roots cuts e ≡ true → has cuts e ≡ false → has (sides (node_at nodes e)) side ≡ true
      → is_live_parent nodes roots cuts side e ≡ true
  parent_from cuts side e l uncut is = and_from _ _ (and_from _ _ l (ap not uncut)) is

  -- with one more cut a row has no new live parent, and the row that is cut is none
  parent_before : (cut : ℕ) (cuts : List ℕ) (side e : ℕ) → is_live_parent nodes roots (cut ∷ cuts) side e ≡ true
      → (is_live_parent nodes roots cuts side e ≡ true) × (cut ≡ e → ⊥)
  parent_before cut cuts side e h = (
    live_parent-fewer nodes lower roots within cut cuts side e h,
    λ same. both_ways (cut == e) (or_parts (cut == e) (has cuts e) (parent_parts (cut ∷ cuts) side e h).1).0 (eq-eqb cut e same),
  )

  -- no other live parent is that the count of live parents is 1
  counted_alone : (cuts : List ℕ) (side e : ℕ) → is_live_parent nodes roots cuts side e ≡ true
      → has_no_parent_but nodes roots cuts e side ≡ (live_parents nodes roots cuts side == 1)
  counted_alone cuts side e parent =
      alone (is_live_parent nodes roots cuts side) (length nodes) e (live-below nodes lower roots within cuts e (parent_parts cuts side e parent).0) parent

  masks_serves : (cuts : List ℕ) (side e : ℕ) → is_live_parent nodes roots cuts side e ≡ true → masks nodes roots cuts e side ≡ serves nodes roots cuts side
  masks_serves cuts side e parent = ap (λ b. is_fresh nodes cuts side && (not (has roots side) && b)) (counted_alone cuts side e parent)

  -- a row that serves has no second live parent
  same_parent : (cuts : List ℕ) (side e p : ℕ) → is_live_parent nodes roots cuts side e ≡ true → is_live_parent nodes roots cuts side p ≡ true → serves nodes roots cuts side ≡ true → p ≡ e
  same_parent cuts side e p parent other h =
      let parts = and_parts (is_fresh nodes cuts side) _ (masks_serves cuts side e parent ∙ h) in
      let rest = and_parts (not (has roots side)) (has_no_parent_but nodes roots cuts e side) parts.1 in
      let lt = live-below nodes lower roots within cuts p (parent_parts cuts side p other).0 in
      ⊎_elim (λ same. eqb-true p e same) (λ t. absurd (both_ways _ (not-true _ t) other))
      (or_cases (p == e) (not (is_live_parent nodes roots cuts side p)) (all_below-at (length nodes) (λ p. p == e || not (is_live_parent nodes roots cuts side p)) rest.1 p lt))

  -- where all that serve wait, each that masks an Xor waits
  pub waiting_begun : (cuts rows : List ℕ) → ((row : ℕ) → serves nodes roots cuts row ≡ true → has rows row ≡ true) → MaskersWait nodes roots cuts rows
  waiting_begun cuts rows each side e parent h xor = each side (sym (masks_serves cuts side e parent) ∙ h)

  -- where none waits, no live row may be cut
  pub none_waits : (cuts rows : List ℕ) → rows ≡ [] → MaskersWait nodes roots cuts rows → IsSaturated nodes roots cuts
  none_waits cuts rows none waiting e = ⊎_elim (λ h. absurd (some (node_at nodes e) refl h)) (λ f. f) (cases_Bool (may_be_cut nodes roots cuts e))
    where
      waits : (side : ℕ) → has rows side ≡ true → ⊥
      waits side h = both_ways (has rows side) (ap (λ l. has l side) none) h

      masked : (n : Node) → node_at nodes e ≡ n → is_live nodes roots cuts e ≡ true → has cuts e ≡ false → is_masked nodes roots cuts e n ≡ true → ⊥
      masked (node.Xor a b) is l uncut h =
          let xor : is_xor (node_at nodes e) ≡ true = ap is_xor is in
          ⊎_elim
          (λ t. waits a.0 (waiting a.0 e (parent_from cuts a.0 e l uncut (has_left (node_at nodes e) a b (inr is))) t xor))
          (λ t. waits b.0 (waiting b.0 e (parent_from cuts b.0 e l uncut (has_right (node_at nodes e) a b (inr is))) t xor))
          (or_cases (masks nodes roots cuts e a.0) (masks nodes roots cuts e b.0) h)
      masked node.Zero is l uncut h = true≢false (sym h)
      masked node.One is l uncut h = true≢false (sym h)
      masked (node.Input i) is l uncut h = true≢false (sym h)
      masked (node.Random i) is l uncut h = true≢false (sym h)
      masked (node.And a b) is l uncut h = true≢false (sym h)

      some : (n : Node) → node_at nodes e ≡ n → may_be_cut nodes roots cuts e ≡ true → ⊥
      some n is h =
          let parts = and_parts (is_live nodes roots cuts e) (is_allowed nodes roots cuts e) h in
          let allowed = and_parts (not (has cuts e)) (is_masked nodes roots cuts e (node_at nodes e)) parts.1 in
          masked n is parts.0 (not-true (has cuts e) allowed.0) (subst (λ m. is_masked nodes roots cuts e m ≡ true) is allowed.1)

  -- a cut of the Xor that a row serves is allowed
  pub serves_allowed : (cuts : List ℕ) (side e : ℕ) (a b : Row) → node_at nodes e ≡ node.Xor a b → is_live_parent nodes roots cuts side e ≡ true → serves nodes roots cuts side ≡ true
      → is_allowed nodes roots cuts e ≡ true
  serves_allowed cuts side e a b is parent h =
      let parts = parent_parts cuts side e parent in
      let m : masks nodes roots cuts e side ≡ true = masks_serves cuts side e parent ∙ h in
      and_from _ _ (ap not parts.1)
      (subst (λ n. is_masked nodes roots cuts e n ≡ true) (sym is)
      (⊎_elim
      (λ same. or_left (masks nodes roots cuts e a.0) _ (subst (λ s. masks nodes roots cuts e s ≡ true) (sym (eqb-true a.0 side same)) m))
      (λ later. ⊎_elim
      (λ same. or_right (masks nodes roots cuts e a.0) _ (subst (λ s. masks nodes roots cuts e s ≡ true) (sym (eqb-true b.0 side same)) m))
      (λ none. absurd (true≢false (sym none)))
      (or_cases (b.0 == side) false later))
      (or_cases (a.0 == side) (b.0 == side || false) (subst (λ n. has (sides n) side ≡ true) is parts.2))))

  -- a row was taken off the list
  module _ (cuts old new : List ℕ) (row : ℕ) (taken : (q : ℕ) → has old q ≡ (row == q || has new q)) (waiting : MaskersWait nodes roots cuts old) where
    still_waits : (side e : ℕ) → is_live_parent nodes roots cuts side e ≡ true → masks nodes roots cuts e side ≡ true → is_xor (node_at nodes e) ≡ true → (row ≡ side) ⊎ (has new side ≡ true)
    still_waits side e parent h xor = ⊎_elim (λ same. inl (eqb-true row side same)) inr (or_cases (row == side) (has new side) (sym (taken side) ∙ waiting side e parent h xor))

    -- its count of live parents is not 1
    pub taken_idle : (live_parents nodes roots cuts row ≡ 1 → ⊥) → MaskersWait nodes roots cuts new
    taken_idle idle side e parent h xor =
        ⊎_elim
        (λ same.
        let m = subst (λ s. masks nodes roots cuts e s ≡ true) (sym same) h in
        let p = subst (λ s. is_live_parent nodes roots cuts s e ≡ true) (sym same) parent in
        let parts = and_parts (is_fresh nodes cuts row) _ m in
        let rest = and_parts (not (has roots row)) (has_no_parent_but nodes roots cuts e row) parts.1 in
        absurd (idle (eqb-true _ 1 (sym (counted_alone cuts row e p) ∙ rest.1))))
        (λ h. h)
        (still_waits side e parent h xor)

    -- its only live parent is no Xor
    pub taken_other : (p : ℕ) → is_live_parent nodes roots cuts row p ≡ true → is_xor (node_at nodes p) ≡ false → MaskersWait nodes roots cuts new
    taken_other p only other side e parent h xor =
        ⊎_elim
        (λ same.
        let m = subst (λ s. masks nodes roots cuts e s ≡ true) (sym same) h in
        let at : is_live_parent nodes roots cuts row e ≡ true = subst (λ s. is_live_parent nodes roots cuts s e ≡ true) (sym same) parent in
        let is : p ≡ e = same_parent cuts row e p at only (sym (masks_serves cuts row e at) ∙ m) in
        absurd (both_ways (is_xor (node_at nodes e)) (subst (λ q. is_xor (node_at nodes q) ≡ false) is other) xor))
        (λ h. h)
        (still_waits side e parent h xor)

    -- its only live parent was cut
    pub taken_cut : (p : ℕ) (after : List ℕ) → is_live_parent nodes roots cuts row p ≡ true → serves nodes roots cuts row ≡ true
        → ((q : ℕ) → has new q ≡ true → has after q ≡ true)
        → ((q : ℕ) → serves nodes roots (p ∷ cuts) q ≡ true → (serves nodes roots cuts q ≡ true) ⊎ (has after q ≡ true))
        → MaskersWait nodes roots (p ∷ cuts) after
    taken_cut p after only served keeps gains side e parent h xor =
        let before = parent_before p cuts side e parent in
        ⊎_elim
        (λ s.
        ⊎_elim
        (λ same.
        let at : is_live_parent nodes roots cuts row e ≡ true = subst (λ q. is_live_parent nodes roots cuts q e ≡ true) (sym same) before.0 in
        absurd (before.1 (same_parent cuts row e p at only served)))
        (λ there. keeps side there)
        (still_waits side e before.0 (masks_serves cuts side e before.0 ∙ s) xor))
        (λ there. there)
        (gains side (sym (masks_serves (p ∷ cuts) side e parent) ∙ h))
