use Rattle.once_random.proofs.LeastChain.{least_is_chain, least_is_saturated}
use Rattle.once_random.proofs.laws.least_chain_is_full.Goals as goal

pub returns-clause-chain : goal.returns-clause-chain
returns-clause-chain c = least_is_chain

pub returns-clause-full : goal.returns-clause-full
returns-clause-full c = least_is_saturated
