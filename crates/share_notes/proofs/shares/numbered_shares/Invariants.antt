use Rattle.std.proofs.Common.{◌≡◌, map, take}
use Rattle.share_notes.specs.Shares.{given, numbered_share}
use Rattle.share_notes.proofs.shares.numbered_shares.Given as goal

-- the shares of the wires before this one are there
abbrev pub invariant-loop-wire : goal.invariant-loop-wire
invariant-loop-wire l = l.shares.items ≡ map (numbered_share l.secrets.list.items) (given l.direction (take l.wire-index l.wires))
