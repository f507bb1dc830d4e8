use Rattle.std.proofs.Common.{◌≡◌, ◌+◌, ◌≤◌, ◌++◌, drop, All}
use Rattle.circuit_types.specs.Items.{wires, numbered, net_wires, bit_count}
use Rattle.circuit_types.specs.Nets.{most_bits}
use Rattle.net_build.proofs.wires.net_wires.Given as goal

-- the wires made and those that are left are all wires, and so are their bits
abbrev pub invariant-loop-item : goal.invariant-loop-item
invariant-loop-item l = (l.first ≤ most_bits)
    × (l.wires.items ++ numbered l.first (wires (drop l.item-index l.items)) ≡ net_wires l.items)
    × (l.first + bit_count (numbered l.first (wires (drop l.item-index l.items))) ≡ bit_count (net_wires l.items))
    × (bit_count l.wires.items ≡ l.first)
    × All (λ w. w.first + w.width ≤ most_bits) l.wires.items
