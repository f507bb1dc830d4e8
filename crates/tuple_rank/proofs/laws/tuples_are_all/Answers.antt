use Rattle.tuple_rank.proofs.Order.{tuples_are_all as the_law}
use Rattle.tuple_rank.proofs.laws.tuples_are_all.Goals as goal

pub returns : goal.returns
returns c = the_law
