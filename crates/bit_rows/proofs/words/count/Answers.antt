use Rattle.std.proofs.Common.{◌<◌, ◌^◌, ℕ, ap, ◌∙◌, length, slice_index, arith}
use Rattle.bit_rows.proofs.Bits.{counted_word, counted_all, few_in_word}
use Rattle.bit_rows.proofs.words.count.Goals as goal

pub loop-word-preserved : goal.loop-word-preserved
loop-word-preserved c =
    let k : ℕ = c.loop-word.word-index in
    let fits : slice_index c.args.words.now k < 2 ^ 64 = omega (arith, c.type_inv.words k) in
    record {
      counted = omega (arith, counted_word c.args.words.now k (omega arith) fits, c.from-total.ensures);
      few = omega (arith, few_in_word c.args.words.now k (omega arith) fits, c.from-total.ensures);
    }

pub returns : goal.returns
returns c = c.loop-word.invariant.counted ∙ ap length (counted_all c.args.words.now c.loop-word.word-index (omega arith))
