use Rattle.rtlil_tree.proofs.Standing.{same_tree}
use Rattle.rtlil_tree.proofs.laws.one_tree.Goals as goal

pub returns : goal.returns
returns c = same_tree
