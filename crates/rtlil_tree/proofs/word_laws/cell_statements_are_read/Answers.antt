use Rattle.rtlil_tree.proofs.WordLaws.{is_cell_statement, some_cell_statement, one_cell_form}
use Rattle.rtlil_tree.proofs.word_laws.cell_statements_are_read.Goals as goal

pub returns-clause-found : goal.returns-clause-found
returns-clause-found c = is_cell_statement

pub returns-clause-some : goal.returns-clause-some
returns-clause-some c = some_cell_statement

pub returns-clause-one : goal.returns-clause-one
returns-clause-one c = one_cell_form
