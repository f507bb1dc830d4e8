use Rattle.std.proofs.Common.{rules}
use Rattle.deque_reach.proofs.Kept.{merges}
use Rattle.deque_reach.proofs.drain.join_first.Goals as goal

pub absorb-requires-clause-rule : goal.absorb-requires-clause-rule
absorb-requires-clause-rule c = merges _ _ _ _ (search rules) (search rules)
