use Rattle.chain_check.proofs.Fronts.{chains_prove}
use Rattle.chain_check.proofs.laws.chains_prove.Goals as goal

pub returns : goal.returns
returns c = chains_prove
