use Rattle.rtlil_tree.proofs.Forming.{wire_if_written, written_if_wire, wire_statement}
use Rattle.rtlil_tree.proofs.word_laws.wires_are_read.Goals as goal

pub returns-clause-found : goal.returns-clause-found
returns-clause-found c f line xs = (wire_if_written f line xs, written_if_wire f line xs)

pub returns-clause-made : goal.returns-clause-made
returns-clause-made c = wire_statement
