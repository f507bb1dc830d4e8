use Rattle.std.proofs.Common.{◌≡◌, ◌++◌, map}
use Rattle.std.specs.Vec.Iter.{into_iter_items}
use Rattle.deque_reach.proofs.drain.take_apart.Given as goal

abbrev pub invariant-loop-reach : goal.invariant-loop-reach
invariant-loop-reach l =
    (l.owners.items ≡ map (λ r. r.owner) l.yielded)
    × (map into_iter_items l.rows.items ≡ map (λ r. r.lanes.items) l.yielded)
    × (l.yielded ++ into_iter_items l.reach-iterator ≡ l.fn.reaches.items)
