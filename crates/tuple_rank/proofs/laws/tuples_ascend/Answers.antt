use Rattle.tuple_rank.proofs.Order.{tuples_ascend as the_law}
use Rattle.tuple_rank.proofs.laws.tuples_ascend.Goals as goal

pub returns : goal.returns
returns c = the_law
