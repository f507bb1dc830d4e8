use Rattle.frontier_core.proofs.Trees.{under_hull}
use Rattle.frontier_core.proofs.laws.family_gives_itself_and_its_children.Goals as goal

pub returns : goal.returns
returns c x family hull is found = under_hull x family hull is found
