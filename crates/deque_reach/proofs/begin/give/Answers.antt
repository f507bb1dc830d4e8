use Rattle.std.proofs.Common.{rules}
use Rattle.deque_reach.proofs.begin.give.Goals as goal

pub returns-clause-row : goal.returns-clause-row
returns-clause-row c = record {
  lane = c.new_lane-lane.result;
  items = search rules;
  deque = c.new_lane-lane.ensures.deque;
  is_new = c.new_lane-lane.ensures.new;
}
