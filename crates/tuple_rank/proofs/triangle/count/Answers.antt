use Rattle.std.proofs.Common.{◌+◌, ◌^◌, ◌≤◌, subst, sym, arith}
use Rattle.std.specs.Option.{SomeIff}
use Rattle.std.proofs.lemmas.Bool.{both_ways}
use Rattle.tuple_rank.proofs.Places.{length-tuples}
use Rattle.tuple_rank.proofs.Rows.{first_row, first_small, too_many}
use Rattle.tuple_rank.proofs.triangle.count.Goals as goal

pub loop-init : goal.loop-init
loop-init c = record { row_is = first_row c.args.t 8 c.requires.few; small = first_small c.args.t 8 c.requires.few }

pub returns-then-not-is_small : goal.returns-then-not-is_small
returns-then-not-is_small c =
    too_many c.args.n c.args.t (c.loop.counter + 1) c.next_row-row.result (omega arith) (c.next_row-row.ensures c.loop.counter c.loop.invariant.row_is) (λ small. both_ways c.is_small.result c.if-not-is_small.true (c.is_small.ensures.1 small))

pub loop-preserved : goal.loop-preserved
loop-preserved c = record { row_is = c.next_row-row.ensures c.loop.counter c.loop.invariant.row_is; small = c.is_small.ensures.0 c.if-not-is_small.false }

pub returns : goal.returns
returns c = subst (λ m. SomeIff c.total_of.result (m ≤ 2 ^ 62) m) (sym (length-tuples c.args.n c.args.t)) c.total_of.ensures
