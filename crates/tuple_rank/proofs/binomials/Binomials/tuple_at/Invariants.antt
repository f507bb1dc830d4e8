use Rattle.tuple_rank.proofs.Placing.{IsFound}
use Rattle.tuple_rank.proofs.binomials.Binomials.tuple_at.Given as goal

abbrev pub invariant-loop-left : goal.invariant-loop-left
invariant-loop-left l = IsFound l.self.n l.size l.place l.low l.left l.rest l.tuple.items

abbrev pub decreases-loop-left : goal.decreases-loop-left
decreases-loop-left l = l.left
