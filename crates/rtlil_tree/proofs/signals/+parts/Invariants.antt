use Rattle.std.proofs.Common.{◌-◌, length}
use Rattle.rtlil_tree.specs.Forms.{ReadsOn}
use Rattle.rtlil_tree.proofs.signals.+parts.Given as goal

abbrev pub invariant-loop-place : goal.invariant-loop-place
invariant-loop-place l = ReadsOn l.words l.start l.depth l.signals.items l.place

abbrev pub decreases-loop-place : goal.decreases-loop-place
decreases-loop-place l = length l.words - l.place

abbrev pub decreases-parts : goal.decreases-parts
decreases-parts l = 64 - l.depth
