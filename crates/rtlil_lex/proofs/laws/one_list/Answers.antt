use Rattle.rtlil_lex.proofs.Once.{same_tokens}
use Rattle.rtlil_lex.proofs.laws.one_list.Goals as goal

pub returns : goal.returns
returns c = same_tokens
