use Rattle.std.proofs.Common.{◌≡◌, ◌++◌, map}
use Rattle.std.specs.Vec.Iter.{into_iter_items}
use Rattle.steal_frontier.specs.Gathers.{all_ended, all_waiting}
use Rattle.steal_frontier.proofs.gathered.gather.Given as goal

abbrev pub invariant-loop-seat : goal.invariant-loop-seat
invariant-loop-seat l =
    (l.reaches.items ≡ map (λ s. s.reach) l.yielded)
    × (l.ended.items ≡ all_ended l.yielded)
    × (l.left.items ≡ all_waiting l.yielded)
    × (l.yielded ++ into_iter_items l.seat-iterator ≡ l.fn.seats.items)
