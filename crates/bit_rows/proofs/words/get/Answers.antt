use Rattle.std.proofs.Common.{sym, ap, ◌∙◌, ◌==◌}
use Rattle.std.proofs.lemmas.Nat.Bits.{shr_and_one}
use Rattle.bit_rows.proofs.Bits.{words_bit-is}
use Rattle.bit_rows.proofs.words.get.Goals as goal

pub returns : goal.returns
returns c = ap (λ b. b == 1) (shr_and_one _ _) ∙ sym (words_bit-is c.args.words.now c.args.i)
