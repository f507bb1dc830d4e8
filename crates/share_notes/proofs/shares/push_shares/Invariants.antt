use Rattle.std.proofs.Common.{◌≡◌, ◌++◌, map}
use Rattle.std.specs.List.{filter_map, range_with_len}
use Rattle.share_notes.specs.Shares.{given_bit, numbered_share}
use Rattle.share_notes.proofs.shares.push_shares.Given as goal

-- the shares of the places before this one are there
abbrev pub invariant-loop-place : goal.invariant-loop-place
invariant-loop-place l =
    l.shares.items ≡ l.initial.shares.items ++ map (numbered_share l.secrets.list.items) (filter_map (given_bit l.wire) (range_with_len 0 l.place))
