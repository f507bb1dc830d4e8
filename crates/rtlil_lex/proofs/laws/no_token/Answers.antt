use Rattle.rtlil_lex.proofs.Once.{bad_none, open_none}
use Rattle.rtlil_lex.proofs.laws.no_token.Goals as goal

pub returns : goal.returns
returns c = record { bad_byte = bad_none; open_string = open_none }
