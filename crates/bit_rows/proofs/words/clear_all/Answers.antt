use Rattle.std.proofs.Common.{◌&&◌, not, bit_and, refl, slice_index, arith}
use Rattle.std.specs.Int.{bit_not, w64}
use Rattle.bit_rows.proofs.Bits.{joined_bits, word_bit-minus}
use Rattle.bit_rows.proofs.words.clear_all.Goals as goal

pub returns : goal.returns
returns c =
    joined_bits (λ a b. a && not b) (λ a b. bit_and a (bit_not w64 b)) c.args.words.now c.args.other.now c.loop-k.words refl (omega arith) (omega arith)
    (λ k j lt. word_bit-minus _ (slice_index c.args.other.now k) j (omega (arith, c.type_inv.other k)) lt) (λ k lt. c.loop-k.invariant.done k (omega arith))
