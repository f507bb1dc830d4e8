use Rattle.steal_frontier.specs.Seats.{AreSeatsOf}
use Rattle.engine_uses.proofs.frontiers.ends_each.Given as goal

abbrev pub invariant-loop-bound : goal.invariant-loop-bound
invariant-loop-bound l = AreSeatsOf l.frontier l.seats.items
