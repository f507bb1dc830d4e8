use Rattle.std.proofs.Common.{◌&&◌, bit_and, refl, arith}
use Rattle.bit_rows.proofs.Bits.{joined_bits, word_bit-and}
use Rattle.bit_rows.proofs.words.clear_others.Goals as goal

pub returns : goal.returns
returns c = joined_bits (λ a b. a && b) bit_and c.args.words.now c.args.other.now c.loop-k.words refl (omega arith) (omega arith) (λ k j _. word_bit-and _ _ j) (λ k lt. c.loop-k.invariant.done k (omega arith))
