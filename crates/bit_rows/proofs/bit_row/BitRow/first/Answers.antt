use Rattle.std.proofs.Common.{◌∙◌}
use Rattle.bit_rows.proofs.Facts.{first_member-from}
use Rattle.bit_rows.proofs.bit_row.BitRow.first.Goals as goal

pub returns : goal.returns
returns c = c.from.ensures ∙ first_member-from c.args.self.now
