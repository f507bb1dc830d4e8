-- The state while the least chain is made; private contracts cite this.
use Rattle.std.specs.Prelude.{ℕ, ◌+◌, ◌-◌, ◌*◌, ◌≤◌, ◌<◌, ◌≡◌, ◌⊎◌, IsTrue, IsFalse, List, [], ◌∷◌, All, length}
use Rattle.expr_table.specs.declared.node.Node.{Node}
use Rattle.expr_table.specs.declared.node.Row.{Row}
use Rattle.expr_table.specs.Table.{node_at, has}
use Rattle.once_random.specs.Cuts.{is_xor, IsChain, cuts_of, is_allowed, least_after, least_chain, masks}
use Rattle.once_random.specs.Live.{is_live_parent}
use Rattle.live_rows.specs.Marks.{queued_count}
use Rattle.live_rows.specs.Shown.{Shows}
use Rattle.live_rows.specs.State.{State}

-- Each Xor that a side masks waits, or its side stands alone and was not taken yet; and each row that waits may be cut,
-- if it is not cut by now.
pub record AreWaiting (nodes : List Node) (roots cuts alone waiting : List ℕ) : Type 0 where
  pub each : (side e : ℕ) → IsTrue (is_live_parent nodes roots cuts side e) → IsTrue (masks nodes roots cuts e side)
      → IsTrue (is_xor (node_at nodes e)) → IsTrue (has alone side) ⊎ IsTrue (has waiting e)
  pub allowed : (e : ℕ) → IsTrue (has waiting e) → IsFalse (has cuts e) → IsTrue (is_allowed nodes roots cuts e)
  pub rows : (e : ℕ) → IsTrue (has waiting e) → e < length nodes

-- The cuts made are the first of the least chain, and each row that may be cut waits.
pub record IsCutting (nodes : List Node) (roots : List ℕ) (chain : List Row) (state : State) (waiting : List ℕ) : Type 0 where
  pub rows : All (λ (row : Row). row.0 < length nodes) chain
  pub shows : Shows nodes roots (cuts_of chain) state.marks
  pub allowed : IsChain nodes roots (cuts_of chain)
  pub rest : least_after nodes roots (length nodes - length chain) (cuts_of chain) ≡ least_chain nodes roots
  pub taken : state.alone ≡ []
  pub waits : AreWaiting nodes roots (cuts_of chain) [] waiting
  pub few : queued_count state.marks ≤ length state.found

-- this row was the least that waited, and was taken out
pub record IsTurn (nodes : List Node) (roots : List ℕ) (chain : List Row) (state : State) (waiting : List ℕ) (row : ℕ) : Type 0 where
  pub cutting : IsCutting nodes roots chain state (row ∷ waiting)
  pub least : (e : ℕ) → IsTrue (has waiting e) → row ≤ e

-- How much there is to do at most: the rows found that were not queued yet and those alone, each of which lets one row
-- wait, and the rows that wait.
abbrev pub work : State → List ℕ → ℕ
work state waiting = 2 * (length state.found + length state.alone - queued_count state.marks) + length waiting
