use Rattle.std.proofs.Common.{rules, arith}
use Rattle.steal_frontier.proofs.Kept.{seats_changed}
use Rattle.engine_uses.proofs.frontiers.reserve.Goals as goal

pub returns-in_err-reserve : goal.returns-in_err-reserve
returns-in_err-reserve c = seats_changed c.args.frontier.now c.args.seats.now.items c.args.number c.index_mut.result.now c.reserve.new.self (first_of (omega arith, search rules)) c.index_mut.ensures.value c.reserve.ensures.keeps c.requires

pub returns-in_ok-reserve : goal.returns-in_ok-reserve
returns-in_ok-reserve c = seats_changed c.args.frontier.now c.args.seats.now.items c.args.number c.index_mut.result.now c.reserve.new.self (first_of (omega arith, search rules)) c.index_mut.ensures.value c.reserve.ensures.keeps c.requires
