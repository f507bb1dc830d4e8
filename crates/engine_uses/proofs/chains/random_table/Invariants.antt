use Rattle.std.proofs.Common.{◌≡◌}
use Rattle.engine_uses.proofs.chains.random_table.Given as goal

-- the table keeps its input leaves
abbrev pub invariant-loop-gate : goal.invariant-loop-gate
invariant-loop-gate g l = l.table.inputs ≡ 6
