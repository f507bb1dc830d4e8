use Rattle.chain_check.proofs.Fronts.{one_answer}
use Rattle.chain_check.proofs.laws.one_answer.Goals as goal

pub returns : goal.returns
returns c = one_answer
