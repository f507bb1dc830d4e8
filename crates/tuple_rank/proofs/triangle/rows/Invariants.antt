use Rattle.tuple_rank.specs.Triangle.{IsTriangleRow, IsTriangle}
use Rattle.tuple_rank.proofs.triangle.rows.Given as goal

abbrev pub invariant-loop : goal.invariant-loop
invariant-loop l = record { row_is : IsTriangleRow l.counter l.t l.row; rows_are : IsTriangle l.counter l.t l.rows.items }
