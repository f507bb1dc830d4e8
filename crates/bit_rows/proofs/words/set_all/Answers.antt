use Rattle.std.proofs.Common.{◌||◌, bit_or, refl, arith}
use Rattle.bit_rows.proofs.Bits.{joined_bits, word_bit-or}
use Rattle.bit_rows.proofs.words.set_all.Goals as goal

pub returns : goal.returns
returns c = joined_bits (λ a b. a || b) bit_or c.args.words.now c.args.other.now c.loop-k.words refl (omega arith) (omega arith) (λ k j _. word_bit-or _ _ j) (λ k lt. c.loop-k.invariant.done k (omega arith))
