use Rattle.std.proofs.Common.{◌≡◌, ◌+◌, ◌≤◌, ◌++◌, List, length}
use Rattle.std.specs.List.{filter_map, range_with_len}
use Rattle.share_notes.specs.Known.{KnowsPlaces}
use Rattle.share_notes.specs.Shares.{GivenBit, given_bit, secrets}
use Rattle.share_notes.proofs.secrets.Secrets.add_wire.Given as goal

-- the secret bits of the places before this one are there
abbrev pub invariant-loop-place : goal.invariant-loop-place
invariant-loop-place l = record {
  known : KnowsPlaces l.self.list.items l.self.places;
  few : length l.self.list.items ≤ length l.initial.self.list.items + l.place;
  list : (gs : List GivenBit) → l.initial.self.list.items ≡ secrets gs
      → l.self.list.items ≡ secrets (gs ++ filter_map (given_bit l.wire) (range_with_len 0 l.place));
}
