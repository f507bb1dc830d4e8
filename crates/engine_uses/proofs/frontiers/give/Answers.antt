use Rattle.std.proofs.Common.{rules, arith}
use Rattle.steal_frontier.proofs.Kept.{seats_changed}
use Rattle.engine_uses.proofs.frontiers.give.Goals as goal

pub returns-in_err-give_with : goal.returns-in_err-give_with
returns-in_err-give_with c = seats_changed c.args.frontier.now c.args.seats.now.items c.args.number c.index_mut.result.now c.give_with.new.seat (first_of (omega arith, search rules)) c.index_mut.ensures.value c.give_with.ensures c.requires.seats

pub returns-in_ok-give_with : goal.returns-in_ok-give_with
returns-in_ok-give_with c = seats_changed c.args.frontier.now c.args.seats.now.items c.args.number c.index_mut.result.now c.give_with.new.seat (first_of (omega arith, search rules)) c.index_mut.ensures.value c.give_with.ensures c.requires.seats
