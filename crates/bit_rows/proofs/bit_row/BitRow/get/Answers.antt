use Rattle.std.proofs.Common.{List, ℕ, Bool, sym, ap, ◌∙◌, length, arith}
use Rattle.bit_rows.specs.Sets.{is_in}
use Rattle.bit_rows.specs.Words.{words_bit}
use Rattle.bit_rows.proofs.Facts.{length-set_of}
use Rattle.bit_rows.proofs.Rows.{row-is_in, row-room}
use Rattle.bit_rows.proofs.bit_row.BitRow.get.Goals as goal

pub get-requires : goal.get-requires
get-requires c = omega (arith, row-room c.self.inside.len c.self.inside.words.items c.self.invariant, length-set_of c.self.inside.len (words_bit c.self.inside.words.items), ap (λ (flags : List Bool). length flags) c.self.view_is, ap (λ (words : List ℕ). length words) c.deref.ensures.value)

pub returns : goal.returns
returns c =
    c.get.ensures
    ∙ ap (λ words. words_bit words c.args.i) c.deref.ensures.value
    ∙ sym (row-is_in c.self.inside.len c.self.inside.words.items c.self.invariant c.args.i)
    ∙ ap (λ flags. is_in flags c.args.i) c.self.view_is
