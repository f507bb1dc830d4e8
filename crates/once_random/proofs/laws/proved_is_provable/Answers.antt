use Rattle.once_random.proofs.Provable.{proved_is_provable}
use Rattle.once_random.proofs.laws.proved_is_provable.Goals as goal

pub returns : goal.returns
returns c x tuple is_table fitting = proved_is_provable x tuple is_table fitting
