use Rattle.std.proofs.Common.{◌≡◌, length}
use Rattle.engine_uses.proofs.sets.multiples.Given as goal

abbrev pub invariant-loop-i : goal.invariant-loop-i
invariant-loop-i l = length l.row ≡ l.n
