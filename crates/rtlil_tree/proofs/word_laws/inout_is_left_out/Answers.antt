use Rattle.rtlil_tree.proofs.Optioning.{supported_said, without_inout}
use Rattle.rtlil_tree.proofs.word_laws.inout_is_left_out.Goals as goal

pub returns-clause-options : goal.returns-clause-options
returns-clause-options c = supported_said

pub returns-clause-tokens : goal.returns-clause-tokens
returns-clause-tokens c = without_inout
