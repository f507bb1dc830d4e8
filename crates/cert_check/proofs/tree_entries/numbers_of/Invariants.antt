use Rattle.std.proofs.Common.{◌≡◌, take}
use Rattle.expr_table.specs.Table.{numbers}
use Rattle.cert_check.proofs.tree_entries.numbers_of.Given as goal

abbrev pub invariant-loop-row : goal.invariant-loop-row
invariant-loop-row l = l.list.items ≡ numbers (take l.row-index l.rows)
