use Rattle.std.proofs.Common.{◌≡◌, bit_and, slice_index, eq-eqb, eqb-true, arith}
use Rattle.std.specs.Int.{bit_not, w64}
use Rattle.bit_rows.proofs.Bits.{within_from_words, words_from_within, outside_more}
use Rattle.bit_rows.proofs.words.are_within.Goals as goal

pub loop-k-preserved : goal.loop-k-preserved
loop-k-preserved c = outside_more c.loop-k.outside _ c.loop-k.k (λ k. bit_and (slice_index c.args.words.now k) (bit_not w64 (slice_index c.args.other.now k)) ≡ 0) c.loop-k.invariant ((λ e. e), (λ e. e))

pub returns : goal.returns
returns c = (
  (λ none. within_from_words c.args.words.now c.args.other.now c.requires (λ k. omega (arith, c.type_inv.other k)) (λ k lt. c.loop-k.invariant.0 (eqb-true c.loop-k.outside 0 none) k (omega arith))),
  (λ each. eq-eqb c.loop-k.outside 0 (c.loop-k.invariant.1 (λ k _. words_from_within c.args.words.now c.args.other.now (λ j. omega (arith, c.type_inv.words j)) (λ j. omega (arith, c.type_inv.other j)) each k))),
)
