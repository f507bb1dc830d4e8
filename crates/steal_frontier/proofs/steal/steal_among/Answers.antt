use Rattle.std.proofs.Common.{◌+◌, ◌-◌, length, refl, arith}
use Rattle.deque_reach.specs.Reaches.{view_of, deques_of}
use Rattle.steal_frontier.proofs.Tried.{steals_at, missed_more, keeps_deques-trans}
use Rattle.steal_frontier.proofs.steal.steal_among.Goals as goal

pub returns-in-Some-clause-stolen : goal.returns-in-Some-clause-stolen
returns-in-Some-clause-stolen c = steals_at (length (deques_of c.args.deques.now)) (view_of c.args.reach.now) (view_of c.steal.new.self) c.in-Some.family (view_of c.loop-deque.reach) c.args.from (c.args.to - c.args.from) c.loop-deque.deque
    (omega arith) (omega arith) (omega arith) c.loop-deque.invariant.1 c.in-Some.ensures.stolen

pub loop-deque-preserved : goal.loop-deque-preserved
loop-deque-preserved c = (
  keeps_deques-trans c.args.reach.now c.loop-deque.reach c.steal.new.self c.loop-deque.invariant.0 c.steal.ensures.deques,
  missed_more (view_of c.args.reach.now) (view_of c.loop-deque.reach) (view_of c.steal.new.self) c.args.from (c.loop-deque.deque + 1 - c.args.from) c.loop-deque.deque (omega arith) refl c.loop-deque.invariant.1 c.in_default.ensures.missed,
)
