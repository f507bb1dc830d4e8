use Rattle.std.proofs.Common.{◌≡◌, ℕ, ◌+◌, ◌<◌, take, map, slice_index_or}
use Rattle.std.specs.Global.{Global}
use Rattle.std.specs.Vec.Iter.{into_iter_items}
use Rattle.std.specs.declared.vec.IntoIter.{IntoIter}
use Rattle.deque_reach.specs.declared.lane.Lane.{Lane}
use Rattle.deque_reach.specs.Ends.{others, JoinsFirsts}
use Rattle.deque_reach.proofs.drain.join_firsts.Given as goal

abbrev pub invariant-loop-row : goal.invariant-loop-row
invariant-loop-row l =
    JoinsFirsts l.initial.owner (take l.row-index (map into_iter_items l.initial.rows)) l.owner
    × ((k : ℕ) (d : IntoIter Lane Global) → k < l.row-index → into_iter_items (slice_index_or l.rows k d) ≡ others (into_iter_items (slice_index_or l.initial.rows k d)))
    × ((k : ℕ) (d : IntoIter Lane Global) → l.row-index < k + 1 → slice_index_or l.rows k d ≡ slice_index_or l.initial.rows k d)
