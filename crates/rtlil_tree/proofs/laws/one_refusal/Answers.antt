use Rattle.rtlil_tree.proofs.Standing.{same_refusal, refused_tree}
use Rattle.rtlil_tree.proofs.laws.one_refusal.Goals as goal

pub returns : goal.returns
returns c = record { one = same_refusal; no_top = refused_tree }
