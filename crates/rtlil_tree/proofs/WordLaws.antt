-- What the reader computes from the words of a statement is what the definitions say. Declares nothing.
pub use Rattle.rtlil_tree.proofs.Saying.{said_if_says, says_if_said, says_once, lexemes_if_said, said_if_lexemes, are_said_once}
pub use Rattle.rtlil_tree.proofs.Signalling.{signals_if_are, are_if_signals}
pub use Rattle.rtlil_tree.proofs.Optioning.{supported_said, without_inout}
pub use Rattle.rtlil_tree.proofs.Forming.{wire_if_written, written_if_wire, wire_statement, is_file_statement, is_module_statement, is_cell_statement, parameter_line, connect_line, cell_parameter_line, some_file_statement, some_module_statement, some_cell_statement, one_file_form, one_module_form, one_cell_form}
pub use Rattle.rtlil_tree.proofs.FormedLines.{lines_formed}
