use Rattle.count_law.proofs.SeenLeaf.{leaf_needed}
use Rattle.count_law.proofs.simulation.seen_leaf_is_needed.Goals as goal

pub returns : goal.returns
returns c x i m set table fitting some s = leaf_needed x i table fitting some set m s
