use Rattle.std.proofs.Common.{◌%◌, arith}
use Rattle.bit_rows.proofs.Bits.{wrote_same_off, wrote_other, clear_word, clear_word_other}
use Rattle.bit_rows.proofs.words.clear.Goals as goal

pub returns-clause-bit : goal.returns-clause-bit
returns-clause-bit c = wrote_same_off c.args.words.now c.args.i (omega arith) _ (clear_word _ (c.args.i % 64) (omega arith))

pub returns-clause-others : goal.returns-clause-others
returns-clause-others c = wrote_other c.args.words.now c.args.i (omega arith) _ (clear_word_other _ (c.args.i % 64) (omega arith))
