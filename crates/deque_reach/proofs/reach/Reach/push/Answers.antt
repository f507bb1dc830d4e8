use Rattle.std.proofs.Common.{rules}
use Rattle.deque_reach.proofs.Kept.{pushes}
use Rattle.deque_reach.proofs.reach.Reach.push.Goals as goal

pub push_as-requires-clause-pushes : goal.push_as-requires-clause-pushes
push_as-requires-clause-pushes c = pushes _ _ _ (search rules) (search rules) c.requires
