use Rattle.expr_table.proofs.Determined.{nodes-from_terms}
use Rattle.expr_table.proofs.laws.terms_give_nodes.Goals as goal

pub returns : goal.returns
returns c = nodes-from_terms
