use Rattle.std.proofs.Common.{◌≡◌, false, not, List}
use Rattle.std.specs.List.{list_any, range_with_len}
use Rattle.share_notes.specs.declared.shares.NumberedShare.{NumberedShare}
use Rattle.share_notes.specs.Known.{KnowsFirst}
use Rattle.share_notes.specs.Shares.{is_share}
use Rattle.share_notes.proofs.shares.FirstBits.lacks_share.Given as goal

-- none of the shares before this one is missing
abbrev pub invariant-loop-index : goal.invariant-loop-index
invariant-loop-index l = (shares : List NumberedShare) → KnowsFirst shares l.self.bits
    → list_any (λ i. not (list_any (is_share l.share.secret i) shares)) (range_with_len 0 l.index) ≡ false
