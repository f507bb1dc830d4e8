use Rattle.std.proofs.Common.{◌≡◌, length}
use Rattle.term_build.specs.Numbering.{leaves_before}
use Rattle.term_build.proofs.leaves.leaf_count.Given as goal

abbrev pub invariant-loop-cycle : goal.invariant-loop-cycle
invariant-loop-cycle l = l.count ≡ length (leaves_before l.sort l.notion l.roles l.cycle)
