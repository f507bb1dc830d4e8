use Rattle.std.proofs.Common.{◌≡◌, ◌+◌, ◌≤◌, drop, length}
use Rattle.circuit_types.specs.Items.{cells}
use Rattle.net_build.proofs.faults.cell_count.Given as goal

abbrev pub invariant-loop-item : goal.invariant-loop-item
invariant-loop-item l = (l.count ≤ l.item-index) × (l.count + length (cells (drop l.item-index l.items)) ≡ length (cells l.items))
