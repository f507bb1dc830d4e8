-- With one more cut, no more rows are live and no row has more live parents; a cut of a row that is not live changes neither.
use Rattle.std.proofs.Common.{◌≡◌, ℕ, ◌≤◌, true, false, not, ◌&&◌, ◌||◌, ◌==◌, List, ◌∷◌, length, sym, ap, ◌∙◌, subst, ⊎_elim}
use Rattle.std.proofs.lemmas.Bool.{cases_eq, and_parts, and_from, and_left, or_parts, not-true, ne_eqb}
use Rattle.expr_table.specs.declared.node.Node.{Node}
use Rattle.expr_table.specs.Table.{node_at, sides, has}
use Rattle.once_random.specs.Live.{AreRows, is_live, is_live_parent, live_parents, AreLower}
use Rattle.once_random.proofs.Facts.{count_below-same, count_mono, live-fewer, live-same}
use Rattle.live_rows.specs.Shown.{live_count}

module _ (nodes : List Node) (lower : AreLower nodes) (roots : List ℕ) (within : AreRows nodes roots) (e : ℕ) (cuts : List ℕ) where
  pub live_parent-fewer : (row parent : ℕ) → is_live_parent nodes roots (e ∷ cuts) row parent ≡ true → is_live_parent nodes roots cuts row parent ≡ true
  live_parent-fewer row parent h =
      let parts = and_parts (is_live nodes roots (e ∷ cuts) parent && not (has (e ∷ cuts) parent)) (has (sides (node_at nodes parent)) row) h in
      let both = and_parts (is_live nodes roots (e ∷ cuts) parent) (not (has (e ∷ cuts) parent)) parts.0 in
      and_from _ _
      (and_from _ _ (live-fewer nodes lower roots within e cuts parent both.0) (ap not (or_parts (e == parent) (has cuts parent) (not-true (has (e ∷ cuts) parent) both.1)).1))
      parts.1

  pub live_parents-fewer : (row : ℕ) → live_parents nodes roots (e ∷ cuts) row ≤ live_parents nodes roots cuts row
  live_parents-fewer row = count_mono (length nodes) (is_live_parent nodes roots cuts row) (is_live_parent nodes roots (e ∷ cuts) row) (live_parent-fewer row)

  pub live_count-fewer : live_count nodes roots (e ∷ cuts) ≤ live_count nodes roots cuts
  live_count-fewer = count_mono (length nodes) (is_live nodes roots cuts) (is_live nodes roots (e ∷ cuts)) (live-fewer nodes lower roots within e cuts)

  module _ (dead : is_live nodes roots cuts e ≡ false) where
    pub live_parent-same : (row parent : ℕ) → is_live_parent nodes roots (e ∷ cuts) row parent ≡ is_live_parent nodes roots cuts row parent
    live_parent-same row parent =
        ap (λ b. b && has (sides (node_at nodes parent)) row)
        (⊎_elim
        (λ is. subst (λ p. (is_live nodes roots (e ∷ cuts) p && not (has (e ∷ cuts) p)) ≡ (is_live nodes roots cuts p && not (has cuts p))) is
        (and_left _ (not (has (e ∷ cuts) e)) (live-same nodes lower roots within e cuts dead e ∙ dead) ∙ sym (and_left _ (not (has cuts e)) dead)))
        (λ other. λ i. live-same nodes lower roots within e cuts dead parent i && not (ne_eqb e parent other i || has cuts parent))
        (cases_eq e parent))

    pub live_parents-same : (row : ℕ) → live_parents nodes roots (e ∷ cuts) row ≡ live_parents nodes roots cuts row
    live_parents-same row = count_below-same (length nodes) (is_live_parent nodes roots (e ∷ cuts) row) (is_live_parent nodes roots cuts row) (λ p _. live_parent-same row p)

    pub live_count-same : live_count nodes roots (e ∷ cuts) ≡ live_count nodes roots cuts
    live_count-same = count_below-same (length nodes) (is_live nodes roots (e ∷ cuts)) (is_live nodes roots cuts) (λ row _. live-same nodes lower roots within e cuts dead row)
