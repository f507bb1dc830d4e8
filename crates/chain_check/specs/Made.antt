-- Cuts that were made; private contracts cite this.
use Rattle.std.specs.Prelude.{ℕ, List}
use Rattle.expr_table.specs.declared.node.Node.{Node}
use Rattle.expr_table.specs.declared.node.Row.{Row}
use Rattle.once_random.specs.Cuts.{IsChain, cuts_of}
use Rattle.live_rows.specs.declared.mark.Mark.{Mark}
use Rattle.live_rows.specs.Shown.{Shows}

-- each cut was allowed when it was made, and the marks are right
pub record CutsAreMade (nodes : List Node) (roots : List ℕ) (cuts : List Row) (marks : List Mark) : Type 0 where
  pub chain : IsChain nodes roots (cuts_of cuts)
  pub shows : Shows nodes roots (cuts_of cuts) marks
