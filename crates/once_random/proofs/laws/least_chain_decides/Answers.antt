use Rattle.once_random.proofs.Provable.{least_chain_decides}
use Rattle.once_random.proofs.laws.least_chain_decides.Goals as goal

pub returns : goal.returns
returns c x roots m is_table within = least_chain_decides x roots is_table within m
