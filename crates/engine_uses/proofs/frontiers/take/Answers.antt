use Rattle.std.proofs.Common.{rules, arith}
use Rattle.steal_frontier.proofs.Kept.{seats_changed}
use Rattle.engine_uses.proofs.frontiers.take.Goals as goal

pub returns-then-number-len : goal.returns-then-number-len
returns-then-number-len c = seats_changed c.args.frontier.now c.args.seats.now.items c.args.number c.index_mut.result.now c.take_with.new.seat (first_of (omega arith, search rules)) c.index_mut.ensures.value c.take_with.ensures c.requires
