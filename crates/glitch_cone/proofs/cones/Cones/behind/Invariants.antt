use Rattle.std.proofs.Common.{map, take}
use Rattle.circuit_types.specs.declared.nets.Pin.{Pin}
use Rattle.glitch_cone.specs.Cones.{IsBehind}
use Rattle.glitch_cone.proofs.cones.Cones.behind.Given as goal

-- what is behind the first pins
abbrev pub invariant-loop-pin : goal.invariant-loop-pin
invariant-loop-pin l = IsBehind l.places l.self.lists.items (map (λ (pin : Pin). pin.source) (take l.pin-index l.cell.pins)) l.numbers.items
