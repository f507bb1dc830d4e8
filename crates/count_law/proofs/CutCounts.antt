-- A chain keeps the counts, and after it the live leaves alone are read.
use Rattle.std.proofs.Common.{◌≡◌, ℕ, zero, suc, ◌+◌, ◌<◌, Bool, true, List, [], ◌∷◌, refl, sym, ◌∙◌, subst, arith}
use Rattle.expr_table.specs.Table.{Table, IsTable, node_at}
use Rattle.expr_table.specs.Values.{bit}
use Rattle.once_random.specs.Cuts.{IsChain, is_allowed}
use Rattle.once_random.specs.Live.{AreRows, is_live}
use Rattle.once_random.proofs.Facts.{live-root, live-side}
use Rattle.count_law.specs.RowCounts.{row_value, row_values, count_of_rows}
use Rattle.count_law.specs.CutRows.{cut_nodes, cut_table}
use Rattle.count_law.proofs.Counting.{count-same}
use Rattle.count_law.proofs.CutNodes.{node_value-same, after-side, after-input}
use Rattle.count_law.proofs.OneCut.{map-same, value_at}

module _ (t : Table) (table : IsTable t) (roots : List ℕ) (within : AreRows t.nodes roots) where
  -- one allowed cut after a chain keeps the counts
  abbrev pub CutsKeepCounts : Type 0
  CutsKeepCounts = (cuts : List ℕ) (e : ℕ) (inputs o : List Bool) → IsChain t.nodes roots cuts → is_allowed t.nodes roots cuts e ≡ true
      → count_of_rows (cut_table t roots cuts) roots inputs o ≡ count_of_rows (cut_table t roots (e ∷ cuts)) roots inputs o

  pub chain_counts : CutsKeepCounts → (cuts : List ℕ) → IsChain t.nodes roots cuts → (inputs o : List Bool)
      → count_of_rows t roots inputs o ≡ count_of_rows (cut_table t roots cuts) roots inputs o
  chain_counts keeps [] chain inputs o = refl
  chain_counts keeps (e ∷ cuts) chain inputs o = chain_counts keeps cuts chain.1 inputs o ∙ keeps cuts e inputs o chain.1 chain.0

  module _ (cuts : List ℕ) (chain : IsChain t.nodes roots cuts) (inputs others : List Bool)
      (same : (i : ℕ) → i < t.inputs → is_live t.nodes roots cuts (2 + i) ≡ true → bit inputs i ≡ bit others i) where
    abbrev val : List Bool → List Bool → ℕ → Bool
    val given w r = row_value (cut_nodes t.nodes roots cuts) given w r

    live_value : (w : List Bool) (fuel r : ℕ) → r < fuel → is_live t.nodes roots cuts r ≡ true → val inputs w r ≡ val others w r
    live_value w zero r lt l = absurd (omega arith)
    live_value w (suc fuel) r lt l =
        value_at t table roots within cuts chain inputs w r l
        ∙ node_value-same inputs others w w (val inputs w) (val others w) (node_at (cut_nodes t.nodes roots cuts) r)
        (λ i is. let at = after-input t table roots cuts chain r i is in same i at.0 (subst (λ q. is_live t.nodes roots cuts q ≡ true) at.1 l))
        (λ i is. refl)
        (λ s at.
        let kept = after-side t table roots cuts chain r s at in
        let low = table.earlier r s kept.1 in
        live_value w fuel s (omega arith) (live-side t.nodes table.earlier roots within cuts r s l kept.0 kept.1))
        ∙ sym (value_at t table roots within cuts chain others w r l)

    pub live_counts : (o : List Bool) → count_of_rows (cut_table t roots cuts) roots inputs o ≡ count_of_rows (cut_table t roots cuts) roots others o
    live_counts o =
        count-same t.randoms (row_values (cut_nodes t.nodes roots cuts) roots inputs) (row_values (cut_nodes t.nodes roots cuts) roots others) o
        (λ w. map-same (val inputs w) (val others w) roots (λ r at. live_value w (suc r) r (omega arith) (live-root t.nodes table.earlier roots within cuts r at)))
