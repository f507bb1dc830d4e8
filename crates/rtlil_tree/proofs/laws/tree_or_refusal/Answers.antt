use Rattle.rtlil_tree.proofs.Standing.{some_outcome}
use Rattle.rtlil_tree.proofs.laws.tree_or_refusal.Goals as goal

pub returns : goal.returns
returns c = some_outcome
