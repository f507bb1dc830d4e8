use Rattle.tuple_rank.specs.Triangle.{IsSmall}
use Rattle.tuple_rank.proofs.triangle.is_small.Given as goal

abbrev pub invariant-loop-k : goal.invariant-loop-k
invariant-loop-k l = IsSmall l.k l.row
