use Rattle.rtlil_tree.proofs.WordLaws.{is_file_statement, some_file_statement, one_file_form}
use Rattle.rtlil_tree.proofs.word_laws.file_statements_are_read.Goals as goal

pub returns-clause-found : goal.returns-clause-found
returns-clause-found c = is_file_statement

pub returns-clause-some : goal.returns-clause-some
returns-clause-some c = some_file_statement

pub returns-clause-one : goal.returns-clause-one
returns-clause-one c = one_file_form
