use Rattle.std.proofs.Common.{◌≡◌, length}
use Rattle.engine_uses.proofs.root_lists.instance_of.Given as goal

abbrev pub invariant-loop-output : goal.invariant-loop-output
invariant-loop-output l = length l.probes.items ≡ l.output-index
