use Rattle.std.proofs.Common.{length, map}
use Rattle.std.specs.Vec.Iter.{into_iter_items}
use Rattle.deque_reach.specs.Reaches.{deques_of, probes_of, order_of}
use Rattle.deque_reach.proofs.Drained.{Drained}
use Rattle.deque_reach.proofs.Each.{Emptied}
use Rattle.deque_reach.proofs.drain.drain_deques.Given as goal

abbrev pub invariant-loop-owner : goal.invariant-loop-owner
invariant-loop-owner l =
    Drained (length (deques_of l.fn.deques)) (probes_of l.fn.deques) (order_of l.fn.deques) (map (λ r. r.owner) l.fn.reaches.items) (into_iter_items l.owner-iterator)
    (map (λ r. r.lanes.items) l.fn.reaches.items) (map into_iter_items l.rows.items) l.left.items
    × Emptied (map (λ r. r.owner) l.fn.reaches.items) (into_iter_items l.owner-iterator) (map (λ r. r.lanes.items) l.fn.reaches.items)
    (map into_iter_items l.rows.items) l.left.items
