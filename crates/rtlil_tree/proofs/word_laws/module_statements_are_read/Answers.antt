use Rattle.rtlil_tree.proofs.WordLaws.{is_module_statement, some_module_statement, one_module_form}
use Rattle.rtlil_tree.proofs.word_laws.module_statements_are_read.Goals as goal

pub returns-clause-found : goal.returns-clause-found
returns-clause-found c = is_module_statement

pub returns-clause-some : goal.returns-clause-some
returns-clause-some c = some_module_statement

pub returns-clause-one : goal.returns-clause-one
returns-clause-one c = one_module_form
