use Rattle.circuit_types.specs.DataSources.{cell_at}
use Rattle.circuit_types.specs.Held.{has_open_reset}
use Rattle.level_unroll.specs.Lines.{IsLeastLine, AtCellBelow}
use Rattle.level_unroll.specs.Shown.{kept_value}
use Rattle.level_unroll.proofs.causes.reset_line.Given as goal

abbrev pub invariant-loop-cell : goal.invariant-loop-cell
invariant-loop-cell l =
    IsLeastLine (AtCellBelow l.nets (λ k. has_open_reset (kept_value l.held) (cell_at l.nets k) (cell_at l.nets k).kind) l.cell-index) l.least
