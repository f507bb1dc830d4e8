-- Cuts after which no live row may be cut leave the least live.
use Rattle.std.proofs.Common.{◌≡◌, ◌⊎◌, ℕ, zero, suc, ◌+◌, ◌≤◌, true, false, not, ◌||◌, ◌==◌, List, [], ◌∷◌, length, refl, sym, ap, subst, arith, true≢false, ⊎_elim, inl, inr}
use Rattle.std.proofs.lemmas.Bool.{cases_Bool, cases_eq, and_parts, and_from, or_cases, or_left, or_right, eqb-true, eq-eqb, not-true, both_ways}
use Rattle.expr_table.specs.declared.node.Node.{Node}
use Rattle.expr_table.specs.declared.node.Node.TheVariants as node
use Rattle.expr_table.specs.Table.{node_at, sides, has}
use Rattle.once_random.specs.Live.{AreLower, is_live, is_live_parent, AreRows}
use Rattle.once_random.specs.Cuts.{is_random, masks, is_masked, may_be_cut, IsChain, IsSaturated}
use Rattle.once_random.proofs.Alone.{all_below-at, all_below-from}
use Rattle.once_random.proofs.LiveRows as live
use Rattle.once_random.proofs.Sides.{has_first, has_later}

module _ (nodes : List Node) (earlier : AreLower nodes) (roots : List ℕ) (within : AreRows nodes roots) (cuts : List ℕ) where
  -- each of these rows is cut already or is not live
  abbrev AreSpent : List ℕ → Type 0
  AreSpent others = (q : ℕ) → has others q ≡ true → (has cuts q ≡ true) ⊎ (is_live nodes roots cuts q ≡ false)

  unspent : (others : List ℕ) → AreSpent others → (q : ℕ) → is_live nodes roots cuts q ≡ true → has cuts q ≡ false → has others q ≡ false
  unspent others spent q l c =
      ⊎_elim (λ t. ⊎_elim (λ u. absurd (both_ways _ c u)) (λ u. absurd (both_ways _ u l)) (spent q t)) (λ f. f) (cases_Bool (has others q))

  more_live : (others : List ℕ) → AreSpent others → (fuel r : ℕ) → length nodes ≤ r + fuel → is_live nodes roots cuts r ≡ true → is_live nodes roots others r ≡ true
  more_live others spent zero r le l = let lt = live.live-below nodes earlier roots within cuts r l in absurd (omega arith)
  more_live others spent (suc fuel) r le l =
      ⊎_elim (λ t. live.live-root nodes earlier roots within others r t)
      (λ t. let low = earlier t.0 r t.4 in
      live.live-side nodes earlier roots within others t.0 r (more_live others spent fuel t.0 (omega arith) t.2) (unspent others spent t.0 t.2 t.3) t.4)
      (live.live-from nodes earlier roots within cuts r l)

  still_masks : (others : List ℕ) → AreSpent others → (e a : ℕ) → is_live nodes roots cuts e ≡ true → has cuts e ≡ false → has (sides (node_at nodes e)) a ≡ true
      → masks nodes roots others e a ≡ true → masks nodes roots cuts e a ≡ true
  still_masks others spent e a l c side h =
      let parts = and_parts (is_random (node_at nodes a) || has others a) _ h in
      let rest = and_parts (not (has roots a)) _ parts.1 in
      let la = live.live-side nodes earlier roots within cuts e a l c side in
      and_from _ _
      (⊎_elim (λ t. or_left (is_random (node_at nodes a)) (has cuts a) t)
      (λ t. or_right (is_random (node_at nodes a)) (has cuts a) (⊎_elim (λ u. u) (λ u. absurd (both_ways _ u la)) (spent a t)))
      (or_cases (is_random (node_at nodes a)) (has others a) parts.0))
      (and_from _ _ rest.0 (all_below-from (length nodes) (λ p. p == e || not (is_live_parent nodes roots cuts a p)) (λ p lt.
      ⊎_elim (λ t. or_left (p == e) _ (eq-eqb p e t))
      (λ t. or_right (p == e) (not (is_live_parent nodes roots cuts a p)) (⊎_elim
      (λ u.
      let q = and_parts _ (has (sides (node_at nodes p)) a) u in
      let q' = and_parts (is_live nodes roots cuts p) (not (has cuts p)) q.0 in
      let lp = more_live others spent (length nodes) p (omega arith) q'.0 in
      let up = unspent others spent p q'.0 (not-true _ q'.1) in
      let parent : is_live_parent nodes roots others a p ≡ true = and_from _ _ (and_from _ _ lp (ap not up)) q.1 in
      absurd (⊎_elim (λ s. t (eqb-true p e s)) (λ s. both_ways _ (not-true _ s) parent)
      (or_cases (p == e) (not (is_live_parent nodes roots others a p)) (all_below-at (length nodes) (λ p. p == e || not (is_live_parent nodes roots others a p)) rest.1 p lt))))
      (λ u. ap not u)
      (cases_Bool (is_live_parent nodes roots cuts a p))))
      (cases_eq p e))))

  still_masked : (others : List ℕ) → AreSpent others → (e : ℕ) (n : Node) → node_at nodes e ≡ n → is_live nodes roots cuts e ≡ true → has cuts e ≡ false → is_masked nodes roots others e n ≡ true → is_masked nodes roots cuts e n ≡ true
  still_masked others spent e (node.Xor a b) is l c h =
      ⊎_elim
      (λ t. or_left (masks nodes roots cuts e a.0) _ (still_masks others spent e a.0 l c (subst (λ n. has (sides n) a.0 ≡ true) (sym is) (has_first a.0 (b.0 ∷ []))) t))
      (λ t. or_right (masks nodes roots cuts e a.0) _ (still_masks others spent e b.0 l c (subst (λ n. has (sides n) b.0 ≡ true) (sym is) (has_later a.0 b.0 (b.0 ∷ []) (has_first b.0 []))) t))
      (or_cases (masks nodes roots others e a.0) (masks nodes roots others e b.0) h)
  still_masked others spent e node.Zero is l c h = absurd (true≢false (sym h))
  still_masked others spent e node.One is l c h = absurd (true≢false (sym h))
  still_masked others spent e (node.Input i) is l c h = absurd (true≢false (sym h))
  still_masked others spent e (node.Random i) is l c h = absurd (true≢false (sym h))
  still_masked others spent e (node.And a b) is l c h = absurd (true≢false (sym h))

  all_spent : IsSaturated nodes roots cuts → (others : List ℕ) → IsChain nodes roots others → AreSpent others
  all_spent full [] chain q h = absurd (true≢false (sym h))
  all_spent full (e ∷ others) chain q h =
      let before = all_spent full others chain.1 in
      ⊎_elim
      (λ t. subst (λ q. (has cuts q ≡ true) ⊎ (is_live nodes roots cuts q ≡ false)) (eqb-true e q t)
      (⊎_elim inl
      (λ c. ⊎_elim
      (λ l.
      let parts = and_parts (not (has others e)) _ chain.0 in
      let again : may_be_cut nodes roots cuts e ≡ true = and_from _ _ l (and_from _ _ (ap not c) (still_masked others before e (node_at nodes e) refl l c parts.1)) in
      absurd (both_ways _ (full e) again))
      inr
      (cases_Bool (is_live nodes roots cuts e)))
      (cases_Bool (has cuts e))))
      (λ t. before q t)
      (or_cases (e == q) (has others q) h)

  pub least_live : IsSaturated nodes roots cuts → (others : List ℕ) → IsChain nodes roots others → (row : ℕ) → is_live nodes roots cuts row ≡ true → is_live nodes roots others row ≡ true
  least_live full others chain row l = more_live others (all_spent full others chain) (length nodes) row (omega arith) l
