use Rattle.std.proofs.Common.{◌≡◌, take}
use Rattle.share_notes.specs.Shares.{share_count}
use Rattle.share_notes.proofs.shares.share_count.Given as goal

abbrev pub invariant-loop-wire : goal.invariant-loop-wire
invariant-loop-wire l = l.count ≡ share_count (take l.wire-index l.wires)
