use Rattle.std.proofs.Common.{rules, ◌∙◌}
use Rattle.deque_reach.specs.Lanes.{KeepsDeque}
use Rattle.deque_reach.proofs.Kept.{takes}
use Rattle.deque_reach.proofs.Reached.{kept_pass, not_stolen}
use Rattle.deque_reach.proofs.lane.Lane.steal.Goals as goal

pub steal_as-requires-clause-takes : goal.steal_as-requires-clause-takes
steal_as-requires-clause-takes c = takes _ _ (search rules) (search rules)

pub returns-in-Empty : goal.returns-in-Empty
returns-in-Empty c =
    let deque : KeepsDeque c.args.self.now c.miss.new.self = λ d of. c.miss.ensures.deque d (kept_pass c.args.self.now.pass c.steal_as.new.pass c.steal_as.ensures.same d of) in
    record {
      deque = deque;
      stolen = tt;
      fits = tt;
      missed = record {
        deque = deque;
        pass = c.miss.ensures.pass ∙ not_stolen _ _ _ _ c.steal_as.result c.steal_as.ensures.rule c.in-Empty.is;
        misses = c.miss.ensures.misses;
      };
    }
