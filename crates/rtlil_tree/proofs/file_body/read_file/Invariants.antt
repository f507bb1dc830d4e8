use Rattle.rtlil_tree.specs.Inner.Cursor.{work_of}
use Rattle.rtlil_tree.proofs.FileMoves.{FileSoFar}
use Rattle.rtlil_tree.proofs.file_body.read_file.Given as goal

abbrev pub invariant-loop-words : goal.invariant-loop-words
invariant-loop-words l = FileSoFar l.fn.lines l.lines l.body

abbrev pub decreases-loop-words : goal.decreases-loop-words
decreases-loop-words l = work_of l.lines
