use Rattle.rtlil_print.proofs.Bounds.{stands_printable}
use Rattle.rtlil_print.proofs.laws.what_stands_is_printable.Goals as goal

pub returns : goal.returns
returns c = stands_printable
