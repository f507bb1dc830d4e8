use Rattle.std.proofs.Common.{◌≡◌, ◌+◌, ◌++◌, drop, All}
use Rattle.std.specs.Prelude.{sum_by}
use Rattle.circuit_types.specs.Items.{wires}
use Rattle.circuit_types.specs.declared.tree.Wire.{Wire}
use Rattle.share_notes.specs.Known.{IsPlaced}
use Rattle.share_notes.specs.Marks.{marked_from, marked_wires}
use Rattle.share_notes.proofs.mark.marked_wires.Given as goal

-- the wires made and those that are left are all wires, and so are their bits
abbrev pub invariant-loop-item : goal.invariant-loop-item
invariant-loop-item l =
    (l.wires.items ++ marked_from l.first (wires (drop l.item-index l.items)) ≡ marked_wires l.items)
    × (l.first + sum_by (λ (w : Wire). w.width) (wires (drop l.item-index l.items)) ≡ sum_by (λ (w : Wire). w.width) (wires l.items))
    × All IsPlaced l.wires.items
