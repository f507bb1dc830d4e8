use Rattle.tuple_rank.proofs.Placing.{IsPlaced}
use Rattle.tuple_rank.proofs.binomials.Binomials.place.Given as goal

abbrev pub invariant-loop-x : goal.invariant-loop-x
invariant-loop-x l = IsPlaced l.self.n l.tuple.items l.x-index l.place l.low l.left
