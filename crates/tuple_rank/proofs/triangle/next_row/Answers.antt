use Rattle.std.proofs.Common.{◌∙◌, arith, length-set}
use Rattle.tuple_rank.proofs.Rows.{number_after, sums_more, next_is_row}
use Rattle.tuple_rank.proofs.triangle.next_row.Goals as goal

pub loop-k-preserved : goal.loop-k-preserved
loop-k-preserved c =
    record {
      len = length-set _ _ _ ∙ c.loop-k.invariant.len;
      before_is = number_after c.args.row.now c.loop-k.k;
      sums = sums_more c.args.row.now c.loop-k.next c.loop-k.k c.loop-k.before (omega arith) c.loop-k.invariant.before_is c.loop-k.invariant.sums;
    }

pub returns : goal.returns
returns c = next_is_row c.args.t c.args.row.now c.loop-k.next (λ k lt. c.loop-k.invariant.sums k (omega arith))
