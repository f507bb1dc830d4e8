use Rattle.family_split.proofs.Few.{children_few}
use Rattle.family_split.proofs.laws.children_are_few.Goals as goal

pub returns : goal.returns
returns c n family hull is = children_few n family hull is
