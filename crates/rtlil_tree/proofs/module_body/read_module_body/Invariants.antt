use Rattle.rtlil_tree.specs.Inner.Cursor.{work_of}
use Rattle.rtlil_tree.proofs.ModuleMoves.{ModuleSoFar}
use Rattle.rtlil_tree.proofs.module_body.read_module_body.Given as goal

abbrev pub invariant-loop-body : goal.invariant-loop-body
invariant-loop-body l = ModuleSoFar l.fn.lines l.lines l.body

abbrev pub decreases-loop-body : goal.decreases-loop-body
decreases-loop-body l = work_of l.lines
