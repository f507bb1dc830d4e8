use Rattle.expr_table.proofs.Facts.{same_row}
use Rattle.expr_table.proofs.laws.one_row_each.Goals as goal

pub returns : goal.returns
returns c table row other t is first second = same_row table is row other t first second
