use Rattle.std.proofs.Common.{◌≡◌, ℕ, ◌+◌, ◌<◌, Vec, slice_index_or}
use Rattle.std.specs.Global.{Global}
use Rattle.deque_reach.specs.declared.lane.Lane.{Lane}
use Rattle.deque_reach.specs.Rows.{GivesParts, GainsLane}
use Rattle.deque_reach.proofs.begin.give_each.Given as goal

abbrev pub invariant-loop-row : goal.invariant-loop-row
invariant-loop-row l =
    GivesParts l.row-index l.initial.owner l.owner
    × ((k : ℕ) (d : Vec Lane Global) → k < l.row-index → GainsLane l.initial.owner (slice_index_or l.initial.rows k d) (slice_index_or l.rows k d))
    × ((k : ℕ) (d : Vec Lane Global) → l.row-index < k + 1 → slice_index_or l.rows k d ≡ slice_index_or l.initial.rows k d)
