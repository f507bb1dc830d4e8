use Rattle.std.proofs.Common.{not}
use Rattle.level_unroll.specs.Lines.{IsLeastLine, AtCellBelow}
use Rattle.level_unroll.specs.Queue.{is_in}
use Rattle.level_unroll.proofs.causes.unmarked_line.Given as goal

abbrev pub invariant-loop-i : goal.invariant-loop-i
invariant-loop-i l = IsLeastLine (AtCellBelow l.nets (λ k. not (is_in l.listed k)) l.i) l.least
