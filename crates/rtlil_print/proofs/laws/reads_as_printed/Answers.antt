use Rattle.rtlil_print.proofs.RoundTrip.{reads}
use Rattle.rtlil_print.proofs.laws.reads_as_printed.Goals as goal

pub returns : goal.returns
returns c = reads
