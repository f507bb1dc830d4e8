use Rattle.std.proofs.Common.{◌≡◌, ap, ◌∙◌, length, arith}
use Rattle.bit_rows.specs.Sets.{members}
use Rattle.bit_rows.specs.Words.{bits}
use Rattle.bit_rows.proofs.Facts.{length-members_below}
use Rattle.bit_rows.proofs.Rows.{row-length, row-members}
use Rattle.bit_rows.proofs.bit_row.BitRow.count.Goals as goal

counted : (c : goal.After-count) → c.count.result ≡ length (members c.args.self.now)
counted c =
    c.count.ensures
    ∙ ap (λ words. length (members (bits words))) c.deref.ensures.value
    ∙ ap length (row-members c.self.inside.len c.self.inside.words.items c.self.invariant)
    ∙ ap (λ flags. length (members flags)) c.self.view_is

pub overflow_cast-result : goal.overflow_cast-result
overflow_cast-result c =
    omega (arith, counted c, length-members_below c.args.self.now (length c.args.self.now), row-length c.self.inside.len c.self.inside.words.items c.args.self.now c.self.view_is, c.self.invariant.few)

pub returns : goal.returns
returns c = counted c
