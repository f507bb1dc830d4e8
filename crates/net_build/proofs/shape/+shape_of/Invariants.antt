use Rattle.std.proofs.Common.{◌≡◌, ◌≤◌, drop, map}
use Rattle.circuit_types.specs.Signals.{shape}
use Rattle.net_build.specs.Shapes.{cap, capped, with_parts, whole}
use Rattle.net_build.proofs.shape.+shape_of.Given as goal

-- the parts seen and those that are left make the whole
abbrev pub invariant-loop-part : goal.invariant-loop-part
invariant-loop-part l = (l.joined.width ≤ cap)
    × (whole (with_parts l.joined (map (shape l.wires.list.now) (drop l.part-index l.part-items))) ≡ capped (shape l.wires.list.now l.fn.signal))
