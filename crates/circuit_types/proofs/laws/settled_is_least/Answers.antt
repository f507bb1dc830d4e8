use Rattle.circuit_types.proofs.Listing.{order_is_least}
use Rattle.circuit_types.proofs.laws.settled_is_least.Goals as goal

pub returns : goal.returns
returns c reads nets = order_is_least reads nets
