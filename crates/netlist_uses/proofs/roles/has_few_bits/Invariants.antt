use Rattle.std.proofs.Common.{◌≡◌, ◌+◌, ◌≤◌, drop}
use Rattle.std.specs.Prelude.{sum_by}
use Rattle.circuit_types.specs.Items.{wires}
use Rattle.circuit_types.specs.declared.tree.Wire.{Wire}
use Rattle.netlist_uses.proofs.roles.has_few_bits.Given as goal

-- the bits so far and those of the items that are left are all bits
abbrev pub invariant-loop-item : goal.invariant-loop-item
invariant-loop-item l =
    (l.bits + sum_by (λ (w : Wire). w.width) (wires (drop l.item-index l.items)) ≡ sum_by (λ (w : Wire). w.width) (wires l.items)) × (l.bits ≤ 1048576)
