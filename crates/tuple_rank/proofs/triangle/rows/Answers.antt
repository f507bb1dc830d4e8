use Rattle.std.proofs.Common.{◌+◌, ◌∷◌, [], ◌++◌, ap, ◌∙◌, sym, subst, arith}
use Rattle.tuple_rank.specs.Triangle.{IsTriangleRow, IsTriangle}
use Rattle.tuple_rank.proofs.Rows.{first_row, first_triangle, triangle_more, rows_are_small}
use Rattle.tuple_rank.proofs.triangle.rows.Goals as goal

pub loop-init : goal.loop-init
loop-init c =
    let row : IsTriangleRow 0 c.args.t (0 ∷ 0 ∷ 0 ∷ 0 ∷ 0 ∷ 0 ∷ 0 ∷ 0 ∷ []) = first_row c.args.t 8 c.requires.few in
    record { row_is = row; rows_are = first_triangle c.args.t _ _ (c.in_ok-push.ensures.items ∙ ap (λ rows. rows ++ (0 ∷ 0 ∷ 0 ∷ 0 ∷ 0 ∷ 0 ∷ 0 ∷ 0 ∷ []) ∷ []) c.in_ok-rows.ensures.items) row }

pub next_row-row-requires-clause-small : goal.next_row-row-requires-clause-small
next_row-row-requires-clause-small c = rows_are_small c.args.n c.args.t _ _ c.requires.small (omega arith) c.loop.invariant.row_is

pub loop-preserved : goal.loop-preserved
loop-preserved c =
    let row : IsTriangleRow (c.loop.counter + 1) c.args.t c.next_row-row.result = c.next_row-row.ensures c.loop.counter c.loop.invariant.row_is in
    record { row_is = row; rows_are = subst (IsTriangle (c.loop.counter + 1) c.args.t) (sym c.in_ok-push-2.ensures.items) (triangle_more c.args.t c.loop.counter c.loop.rows.items c.next_row-row.result c.loop.invariant.rows_are row) }
