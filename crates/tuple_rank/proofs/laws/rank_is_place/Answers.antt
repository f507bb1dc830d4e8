use Rattle.tuple_rank.proofs.Order.{rank_is_place as the_law}
use Rattle.tuple_rank.proofs.laws.rank_is_place.Goals as goal

pub returns : goal.returns
returns c = the_law
