use Rattle.once_random.proofs.Provable.{saturated_live, saturated_within, saturated_decides}
use Rattle.once_random.proofs.laws.saturated_chain_decides.Goals as goal

pub returns-clause-live : goal.returns-clause-live
returns-clause-live c nodes roots cuts lower within = saturated_live nodes lower roots within cuts

pub returns-clause-within : goal.returns-clause-within
returns-clause-within c nodes groups roots cuts m lower within chain full = saturated_within nodes groups roots lower within cuts chain full m

pub returns-clause-provable : goal.returns-clause-provable
returns-clause-provable c nodes groups roots cuts m lower within chain full = saturated_decides nodes groups roots lower within cuts chain full m
