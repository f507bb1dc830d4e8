use Rattle.rtlil_tree.specs.Inner.Cursor.{work_of}
use Rattle.rtlil_tree.proofs.LoadMoves.{LinesSoFar}
use Rattle.rtlil_tree.proofs.lines.Lines.advance.Given as goal

abbrev pub invariant-loop-alloc : goal.invariant-loop-alloc
invariant-loop-alloc l = LinesSoFar l.fn.self l.self

abbrev pub decreases-loop-alloc : goal.decreases-loop-alloc
decreases-loop-alloc l = work_of l.self
