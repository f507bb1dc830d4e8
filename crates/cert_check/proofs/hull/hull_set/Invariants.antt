use Rattle.std.proofs.Common.{◌≡◌, take}
use Rattle.bit_rows.specs.Sets.{set_of}
use Rattle.expr_table.specs.Table.{has}
use Rattle.cert_check.proofs.hull.hull_set.Given as goal

abbrev pub invariant-loop-i : goal.invariant-loop-i
invariant-loop-i l = l.set ≡ set_of l.n (has (take l.i l.hull))
