use Rattle.circuit_types.proofs.Listing.{order_is_order}
use Rattle.circuit_types.proofs.laws.order_stands_after.Goals as goal

pub returns : goal.returns
returns c reads nets = order_is_order reads nets
