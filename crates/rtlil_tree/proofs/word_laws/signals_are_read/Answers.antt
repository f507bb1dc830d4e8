use Rattle.rtlil_tree.proofs.Signalling.{signals_if_are, are_if_signals}
use Rattle.rtlil_tree.proofs.word_laws.signals_are_read.Goals as goal

pub returns : goal.returns
returns c ss xs = (signals_if_are ss xs, are_if_signals ss xs)
