use Rattle.rtlil_tree.proofs.FormedLines.{lines_formed}
use Rattle.rtlil_tree.proofs.word_laws.tokens_are_formed.Goals as goal

pub returns : goal.returns
returns c = lines_formed
