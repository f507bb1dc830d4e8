use Rattle.std.proofs.Common.{◌≡◌, false, take}
use Rattle.expr_table.specs.Table.{has}
use Rattle.frontier_core.specs.Balance.{failed_ranks}
use Rattle.frontier_core.proofs.answer.failed_tuple.Given as goal

abbrev pub invariant-loop-one : goal.invariant-loop-one
invariant-loop-one l = has (failed_ranks (take l.one-index l.ended)) l.rank ≡ false
