use Rattle.steal_frontier.specs.Seats.{KeepsFrontier}
use Rattle.engine_uses.proofs.frontiers.work.Given as goal

abbrev pub invariant-loop : goal.invariant-loop
invariant-loop l = KeepsFrontier l.fn.seat l.seat
