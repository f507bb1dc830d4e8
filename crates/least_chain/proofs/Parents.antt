-- Live parents, and the sides that mask them.
use Rattle.std.proofs.Common.{◌≡◌, ℕ, true, false, not, ◌&&◌, ◌||◌, ◌==◌, List, ◌∷◌, length, sym, ap, ◌∙◌, subst, true≢false, ⊎_elim}
use Rattle.std.proofs.lemmas.Bool.{and_parts, and_from, or_cases, or_left, or_right, or_parts, eqb-true, eq-eqb, not-true, both_ways, false_from_ne_true}
use Rattle.expr_table.specs.declared.node.Node.{Node}
use Rattle.expr_table.specs.declared.node.Node.TheVariants as node
use Rattle.expr_table.specs.declared.node.Row.{Row}
use Rattle.expr_table.specs.Table.{node_at, sides, has}
use Rattle.once_random.specs.Cuts.{is_random, is_fresh, has_no_parent_but, masks, is_masked, is_allowed}
use Rattle.once_random.specs.Live.{AreLower, is_live, is_live_parent, AreRows, live_parents}
use Rattle.once_random.proofs.Alone.{alone}
use Rattle.once_random.proofs.Facts.{all_below-at, all_below-from, live-below, live-fewer}
use Rattle.live_rows.specs.Shown.{serves}

module _ (nodes : List Node) (lower : AreLower nodes) (roots : List ℕ) (within : AreRows nodes roots) where
  -- what a live parent is
  pub parent_parts : (cuts : List ℕ) (side e : ℕ) → is_live_parent nodes roots cuts side e ≡ true
      → (is_live nodes roots cuts e ≡ true) × (has cuts e ≡ false) × (has (sides (node_at nodes e)) side ≡ true)
  parent_parts cuts side e h =
      let parts = and_parts (is_live nodes roots cuts e && not (has cuts e)) (has (sides (node_at nodes e)) side) h in
      let here = and_parts (is_live nodes roots cuts e) (not (has cuts e)) parts.0 in
      (here.0, not-true (has cuts e) here.1, parts.1)

  pub parent_from : (cuts : List ℕ) (side e : ℕ) → is_live nodes roots cuts e ≡ true → has cuts e ≡ false → has (sides (node_at nodes e)) side ≡ true
      → is_live_parent nodes roots cuts side e ≡ true
  parent_from cuts side e l uncut is = and_from _ _ (and_from _ _ l (ap not uncut)) is

  -- with one more cut a row has no new live parent, and the row that is cut is none
  pub parent_before : (cut : ℕ) (cuts : List ℕ) (side e : ℕ) → is_live_parent nodes roots (cut ∷ cuts) side e ≡ true
      → (is_live_parent nodes roots cuts side e ≡ true) × (cut ≡ e → ⊥)
  parent_before cut cuts side e h =
      let is = parent_parts (cut ∷ cuts) side e h in
      let uncut = or_parts (cut == e) (has cuts e) is.1 in
      (parent_from cuts side e (live-fewer nodes lower roots within cut cuts e is.0) uncut.1 is.2, λ same. both_ways (cut == e) uncut.0 (eq-eqb cut e same))

  -- no other live parent is that the count of live parents is 1
  pub counted_alone : (cuts : List ℕ) (side e : ℕ) → is_live_parent nodes roots cuts side e ≡ true
      → has_no_parent_but nodes roots cuts e side ≡ (live_parents nodes roots cuts side == 1)
  counted_alone cuts side e parent =
      alone (is_live_parent nodes roots cuts side) (length nodes) e (live-below nodes lower roots within cuts e (parent_parts cuts side e parent).0) parent

  pub masks_serves : (cuts : List ℕ) (side e : ℕ) → is_live_parent nodes roots cuts side e ≡ true → masks nodes roots cuts e side ≡ serves nodes roots cuts side
  masks_serves cuts side e parent = ap (λ b. is_fresh nodes cuts side && (not (has roots side) && b)) (counted_alone cuts side e parent)

  -- a row that masks a live parent has no second one
  pub same_parent : (cuts : List ℕ) (side e p : ℕ) → masks nodes roots cuts e side ≡ true → is_live_parent nodes roots cuts side p ≡ true → p ≡ e
  same_parent cuts side e p h other =
      let rest = and_parts (not (has roots side)) (has_no_parent_but nodes roots cuts e side) (and_parts (is_fresh nodes cuts side) _ h).1 in
      let lt = live-below nodes lower roots within cuts p (parent_parts cuts side p other).0 in
      ⊎_elim (λ same. eqb-true p e same) (λ t. absurd (both_ways _ (not-true _ t) other))
      (or_cases (p == e) (not (is_live_parent nodes roots cuts side p)) (all_below-at (length nodes) (λ p. p == e || not (is_live_parent nodes roots cuts side p)) rest.1 p lt))

  -- a cut of the Xor that a row serves is allowed
  pub serves_allowed : (cuts : List ℕ) (side e : ℕ) (a b : Row) → node_at nodes e ≡ node.Xor a b → is_live_parent nodes roots cuts side e ≡ true → serves nodes roots cuts side ≡ true
      → is_allowed nodes roots cuts e ≡ true
  serves_allowed cuts side e a b is parent h =
      let parts = parent_parts cuts side e parent in
      let m : masks nodes roots cuts e side ≡ true = masks_serves cuts side e parent ∙ h in
      and_from _ _ (ap not parts.1)
      (subst (λ n. is_masked nodes roots cuts e n ≡ true) (sym is)
      (⊎_elim
      (λ same. or_left (masks nodes roots cuts e a.0) _ (subst (λ s. masks nodes roots cuts e s ≡ true) (sym (eqb-true a.0 side same)) m))
      (λ later. ⊎_elim
      (λ same. or_right (masks nodes roots cuts e a.0) _ (subst (λ s. masks nodes roots cuts e s ≡ true) (sym (eqb-true b.0 side same)) m))
      (λ none. absurd (true≢false (sym none)))
      (or_cases (b.0 == side) false later))
      (or_cases (a.0 == side) (b.0 == side || false) (subst (λ n. has (sides n) side ≡ true) is parts.2))))

  -- what masks a row does so with one more cut too
  masks-more : (cut : ℕ) (cuts : List ℕ) (e side : ℕ) → masks nodes roots cuts e side ≡ true → masks nodes roots (cut ∷ cuts) e side ≡ true
  masks-more cut cuts e side h =
      let parts = and_parts (is_fresh nodes cuts side) _ h in
      let rest = and_parts (not (has roots side)) (has_no_parent_but nodes roots cuts e side) parts.1 in
      and_from _ _
      (⊎_elim (λ t. or_left (is_random (node_at nodes side)) _ t) (λ t. or_right (is_random (node_at nodes side)) _ (or_right (cut == side) (has cuts side) t))
      (or_cases (is_random (node_at nodes side)) (has cuts side) parts.0))
      (and_from _ _ rest.0 (all_below-from (length nodes) (λ p. p == e || not (is_live_parent nodes roots (cut ∷ cuts) side p)) (λ p lt.
      ⊎_elim (λ t. or_left (p == e) _ t)
      (λ t. or_right (p == e) _ (ap not (false_from_ne_true (is_live_parent nodes roots (cut ∷ cuts) side p) (λ u. both_ways _ (not-true _ t) (parent_before cut cuts side p u).0))))
      (or_cases (p == e) (not (is_live_parent nodes roots cuts side p)) (all_below-at (length nodes) (λ p. p == e || not (is_live_parent nodes roots cuts side p)) rest.1 p lt)))))

  masked-more : (cut : ℕ) (cuts : List ℕ) (e : ℕ) (n : Node) → is_masked nodes roots cuts e n ≡ true → is_masked nodes roots (cut ∷ cuts) e n ≡ true
  masked-more cut cuts e (node.Xor a b) h =
      ⊎_elim (λ t. or_left (masks nodes roots (cut ∷ cuts) e a.0) _ (masks-more cut cuts e a.0 t)) (λ t. or_right (masks nodes roots (cut ∷ cuts) e a.0) _ (masks-more cut cuts e b.0 t))
      (or_cases (masks nodes roots cuts e a.0) (masks nodes roots cuts e b.0) h)
  masked-more cut cuts e node.Zero h = absurd (true≢false (sym h))
  masked-more cut cuts e node.One h = absurd (true≢false (sym h))
  masked-more cut cuts e (node.Input i) h = absurd (true≢false (sym h))
  masked-more cut cuts e (node.Random i) h = absurd (true≢false (sym h))
  masked-more cut cuts e (node.And a b) h = absurd (true≢false (sym h))

  -- what may be cut may be cut after one more cut, if that was not its own
  pub allowed-more : (cut : ℕ) (cuts : List ℕ) (e : ℕ) → is_allowed nodes roots cuts e ≡ true → has (cut ∷ cuts) e ≡ false → is_allowed nodes roots (cut ∷ cuts) e ≡ true
  allowed-more cut cuts e h uncut =
      and_from _ _ (ap not uncut) (masked-more cut cuts e (node_at nodes e) (and_parts (not (has cuts e)) (is_masked nodes roots cuts e (node_at nodes e)) h).1)
