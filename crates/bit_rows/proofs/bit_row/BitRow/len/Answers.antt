use Rattle.std.proofs.Common.{sym, ap, ◌∙◌, length}
use Rattle.bit_rows.specs.Words.{words_bit}
use Rattle.bit_rows.proofs.Facts.{length-set_of}
use Rattle.bit_rows.proofs.bit_row.BitRow.len.Goals as goal

pub returns : goal.returns
returns c = sym (length-set_of c.self.inside.len (words_bit c.self.inside.words.items)) ∙ ap length c.self.view_is
