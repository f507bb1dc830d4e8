use Rattle.expr_table.proofs.Turned.{and_of-turned}
use Rattle.expr_table.proofs.laws.conjunction.Goals as goal

pub returns : goal.returns
returns c = and_of-turned
