use Rattle.circuit_types.proofs.ByCells.{settled_are_levelled}
use Rattle.circuit_types.proofs.laws.settled_is_levelled.Goals as goal

pub returns : goal.returns
returns c timing nets all = settled_are_levelled nets timing all
