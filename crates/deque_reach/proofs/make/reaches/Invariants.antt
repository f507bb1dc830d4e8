use Rattle.std.proofs.Common.{◌≡◌, ◌+◌, All, map, drop, vec_len}
use Rattle.std.specs.List.{range_with_len}
use Rattle.std.specs.Vec.Iter.{into_iter_items, into_iter_len}
use Rattle.deque_reach.specs.Views.{new_view}
use Rattle.deque_reach.specs.Reaches.{view_of, probes_of, order_of, IsReachOf}
use Rattle.deque_reach.proofs.make.reaches.Given as goal

abbrev pub invariant-loop-number : goal.invariant-loop-number
invariant-loop-number l =
    (into_iter_items l.owners ≡ drop l.number l.fn.owners.items)
    × (into_iter_items l.rows ≡ drop l.number l.fn.rows.items)
    × (into_iter_len l.owners + l.number ≡ l.workers)
    × (into_iter_len l.rows + l.number ≡ l.workers)
    × (vec_len l.reaches ≡ l.number)
    × All (IsReachOf l.deques) l.reaches.items
    × (map view_of l.reaches.items ≡ map (new_view l.workers (probes_of l.deques) (order_of l.deques)) (range_with_len 0 l.number))
