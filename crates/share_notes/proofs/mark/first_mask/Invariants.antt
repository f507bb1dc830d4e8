use Rattle.std.proofs.Common.{◌≡◌, length}
use Rattle.share_notes.specs.Marks.{masks}
use Rattle.share_notes.proofs.mark.first_mask.Given as goal

abbrev pub invariant-loop-rest : goal.invariant-loop-rest
invariant-loop-rest l = masks l.rest ≡ masks l.attributes

abbrev pub decreases-loop-rest : goal.decreases-loop-rest
decreases-loop-rest l = length l.rest
