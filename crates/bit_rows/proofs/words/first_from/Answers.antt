use Rattle.std.proofs.Common.{ℕ, ◌<◌, ◌*◌, ◌/◌, ◌%◌, ◌^◌, slice_index, refl, ⊎_elim, arith}
use Rattle.std.proofs.Math.Nat.{div-le_self}
use Rattle.std.proofs.lemmas.Bool.{cases_lt}
use Rattle.bit_rows.proofs.Bits.{first_in_rest, first_in_word, none_in_rest, none_in_word, words_bit-past}
use Rattle.bit_rows.proofs.words.first_from.Goals as goal

pub returns-then-rest-ne0 : goal.returns-then-rest-ne0
returns-then-rest-ne0 c =
    let word : ℕ = slice_index c.args.words.now (c.args.start / 64) in
    let fits : word < 2 ^ 64 = omega (arith, c.type_inv.words (c.args.start / 64)) in
    first_in_rest c.args.words.now c.args.start _ refl (omega arith) (omega (arith, div-le_self word (2 ^ (c.args.start % 64)))) fits

pub loop-k-init : goal.loop-k-init
loop-k-init c = record { past = omega arith; none = λ i from lt. none_in_rest c.args.words.now c.args.start (omega arith) i from (omega arith) }

pub returns-then-word-ne0 : goal.returns-then-word-ne0
returns-then-word-ne0 c = first_in_word c.args.words.now c.args.start c.loop-k.k _ refl (omega arith) (omega (arith, c.type_inv.words c.loop-k.k)) c.loop-k.invariant.past c.loop-k.invariant.none

pub loop-k-preserved : goal.loop-k-preserved
loop-k-preserved c =
    record {
      past = omega (arith, c.loop-k.invariant.past);
      none = λ i from lt. ⊎_elim (λ before. c.loop-k.invariant.none i from before) (λ here. none_in_word c.args.words.now c.loop-k.k (omega arith) i here (omega arith)) (cases_lt i (c.loop-k.k * 64));
    }

pub returns : goal.returns
returns c = λ i from. ⊎_elim (λ before. c.loop-k.invariant.none i from before) (λ past. words_bit-past c.args.words.now i (omega arith)) (cases_lt i (c.loop-k.k * 64))
