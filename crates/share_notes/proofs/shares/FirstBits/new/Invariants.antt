use Rattle.std.proofs.Common.{take}
use Rattle.share_notes.specs.Known.{KnowsFirst}
use Rattle.share_notes.proofs.shares.FirstBits.new.Given as goal

abbrev pub invariant-loop-share : goal.invariant-loop-share
invariant-loop-share l = KnowsFirst (take l.share-index l.shares) l.first.bits
