use Rattle.std.proofs.Common.{◌≡◌, length}
use Rattle.engine_uses.proofs.counted_looks.decides_the_probes_of_a_refresh.Given as goal

-- the scratch stays fit
abbrev pub invariant-loop-bits : goal.invariant-loop-bits
invariant-loop-bits g l = l.scratch ≡ length l.instance.table.nodes
