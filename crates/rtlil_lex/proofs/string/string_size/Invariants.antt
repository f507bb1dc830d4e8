use Rattle.std.proofs.Common.{◌-◌, length}
use Rattle.rtlil_lex.proofs.Pieces.{IsInside}
use Rattle.rtlil_lex.proofs.string.string_size.Given as goal

abbrev pub invariant-loop-size : goal.invariant-loop-size
invariant-loop-size l = IsInside l.bytes l.place

abbrev pub decreases-loop-size : goal.decreases-loop-size
decreases-loop-size l = length l.bytes - l.place
