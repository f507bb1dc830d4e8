use Rattle.rtlil_print.proofs.SameText.{same_text}
use Rattle.rtlil_print.proofs.laws.lines_are_not_printed.Goals as goal

pub returns : goal.returns
returns c = same_text
