use Rattle.expr_table.proofs.Turned.{xor_of-turned}
use Rattle.expr_table.proofs.laws.exclusive_or.Goals as goal

pub returns : goal.returns
returns c = xor_of-turned
