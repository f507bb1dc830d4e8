use Rattle.std.proofs.Common.{rules}
use Rattle.deque_reach.proofs.Kept.{begins_with}
use Rattle.deque_reach.proofs.begin.begin.Goals as goal

pub pop_as-requires-clause-fifo : goal.pop_as-requires-clause-fifo
pop_as-requires-clause-fifo c = λ _. begins_with _ _ c.in_ok-family.family (search rules) (search rules)
