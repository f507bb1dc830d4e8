use Rattle.std.proofs.Common.{◌≡◌, take}
use Rattle.expr_table.specs.Table.{numbers}
use Rattle.cert_check.proofs.cuts.rows_of.Given as goal

abbrev pub invariant-loop-cut : goal.invariant-loop-cut
invariant-loop-cut l = numbers l.rows.items ≡ take l.cut-index l.cuts
