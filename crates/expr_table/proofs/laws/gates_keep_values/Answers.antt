use Rattle.expr_table.proofs.Values.{eval-xor_of, eval-and_of}
use Rattle.expr_table.proofs.laws.gates_keep_values.Goals as goal

pub returns-clause-xor : goal.returns-clause-xor
returns-clause-xor c = eval-xor_of

pub returns-clause-and : goal.returns-clause-and
returns-clause-and c = eval-and_of
