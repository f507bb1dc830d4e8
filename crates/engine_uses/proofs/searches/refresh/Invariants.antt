use Rattle.std.proofs.Common.{◌≡◌}
use Rattle.engine_uses.proofs.searches.refresh.Given as goal

-- the table keeps its input leaf
abbrev pub invariant-loop-a : goal.invariant-loop-a
invariant-loop-a g l = l.table.inputs ≡ 1
