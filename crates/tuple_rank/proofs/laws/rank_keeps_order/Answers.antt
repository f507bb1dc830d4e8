use Rattle.tuple_rank.proofs.Order.{rank_keeps_order as the_law}
use Rattle.tuple_rank.proofs.laws.rank_keeps_order.Goals as goal

pub returns : goal.returns
returns c = the_law
