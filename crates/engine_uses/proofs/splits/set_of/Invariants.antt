use Rattle.std.proofs.Common.{◌≡◌, length}
use Rattle.engine_uses.proofs.splits.set_of.Given as goal

abbrev pub invariant-loop-member : goal.invariant-loop-member
invariant-loop-member l = length l.set ≡ 16
