use Rattle.tuple_rank.specs.Triangle.{IsTriangleRow, IsSmall}
use Rattle.tuple_rank.proofs.triangle.count.Given as goal

abbrev pub invariant-loop : goal.invariant-loop
invariant-loop l = record { row_is : IsTriangleRow l.counter l.t l.row; small : IsSmall l.t l.row }
