use Rattle.once_random.proofs.Subsets.{chain-among}
use Rattle.once_random.proofs.Provable.{within-among, provable-among}
use Rattle.once_random.proofs.laws.subset_keeps_chain.Goals as goal

pub returns-clause-chain : goal.returns-clause-chain
returns-clause-chain c nodes roots some cuts among = chain-among nodes some roots among cuts

pub returns-clause-within : goal.returns-clause-within
returns-clause-within c x roots some cuts m among = within-among x some roots m among cuts

pub returns-clause-provable : goal.returns-clause-provable
returns-clause-provable c x roots some m among = provable-among x some roots m among
