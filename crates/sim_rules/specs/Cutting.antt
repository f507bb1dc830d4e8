-- The state while cuts are made; private contracts cite this.
use Rattle.std.specs.Prelude.{ℕ, ◌+◌, ◌≤◌, IsTrue, List, length}
use Rattle.expr_table.specs.declared.node.Node.{Node}
use Rattle.expr_table.specs.Table.{node_at, has}
use Rattle.once_random.specs.Cuts.{is_xor, masks, IsChain, IsSaturated}
use Rattle.once_random.specs.Live.{is_live_parent}
use Rattle.live_rows.specs.Marks.{queued_count}
use Rattle.live_rows.specs.Shown.{Shows, live_count}
use Rattle.live_rows.specs.State.{State}

-- each row that masks an Xor of which it is a side, so that the Xor may be cut, is among those that wait
abbrev pub MaskersWait : List Node → List ℕ → List ℕ → List ℕ → Type 0
MaskersWait nodes roots cuts waiting =
    (side e : ℕ) → IsTrue (is_live_parent nodes roots cuts side e) → IsTrue (masks nodes roots cuts e side)
    → IsTrue (is_xor (node_at nodes e)) → IsTrue (has waiting side)

-- Some cuts were made, each allowed when it was made, and each row that may serve one more waits. Each row that does
-- not wait any more has had its turn, which took at most one step; and each row that is live no more took one.
pub record IsServing (nodes : List Node) (roots : List ℕ) (limit : ℕ) (state : State) (waiting : List ℕ) (steps : ℕ)
    : Type 0 where
  pub cuts : List ℕ
  pub chain : IsChain nodes roots cuts
  pub shows : Shows nodes roots cuts state.marks
  pub serving : MaskersWait nodes roots cuts waiting
  pub few : queued_count state.marks ≤ length state.found
  pub cost : (steps + live_count nodes roots cuts) + length waiting ≤ limit + queued_count state.marks

-- some chain was cut, after which no live row may be cut
pub record IsCutDown (nodes : List Node) (roots : List ℕ) (state : State) : Type 0 where
  pub cuts : List ℕ
  pub chain : IsChain nodes roots cuts
  pub full : IsSaturated nodes roots cuts
  pub shows : Shows nodes roots cuts state.marks
