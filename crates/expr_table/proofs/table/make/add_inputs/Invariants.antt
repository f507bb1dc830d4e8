use Rattle.std.proofs.Common.{◌≡◌}
use Rattle.expr_table.specs.Table.{leaves}
use Rattle.expr_table.specs.Interning.{numbered}
use Rattle.expr_table.proofs.table.make.add_inputs.Given as goal

abbrev pub invariant-loop-i : goal.invariant-loop-i
invariant-loop-i l = l.rows.entries ≡ numbered 0 (leaves l.i 0)
