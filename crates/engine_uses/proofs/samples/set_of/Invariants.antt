use Rattle.std.proofs.Common.{◌≡◌, length}
use Rattle.engine_uses.proofs.samples.set_of.Given as goal

-- the set keeps its length
abbrev pub invariant-loop-i : goal.invariant-loop-i
invariant-loop-i l = length l.set ≡ l.len
