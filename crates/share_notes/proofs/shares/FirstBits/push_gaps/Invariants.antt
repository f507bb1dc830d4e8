use Rattle.std.proofs.Common.{◌≡◌, ◌++◌, drop}
use Rattle.share_notes.specs.Shares.{lacks_share, share_lines}
use Rattle.share_notes.proofs.shares.FirstBits.push_gaps.Given as goal

-- the lines found and those of the shares that are left are all lines
abbrev pub invariant-loop-share : goal.invariant-loop-share
invariant-loop-share l =
    l.lines.items ++ share_lines (lacks_share l.count l.shares) (drop l.share-index l.shares) ≡ l.initial.lines.items ++ share_lines (lacks_share l.count l.shares) l.shares
