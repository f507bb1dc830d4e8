use Rattle.rtlil_lex.proofs.Once.{same_bad_byte, same_open_string, tokens_or_bad, tokens_or_open, bad_or_open}
use Rattle.rtlil_lex.proofs.laws.one_outcome.Goals as goal

pub returns : goal.returns
returns c = record {
  bad_byte = same_bad_byte;
  open_string = same_open_string;
  tokens_or_bad = tokens_or_bad;
  tokens_or_open = tokens_or_open;
  bad_or_open = bad_or_open;
}
