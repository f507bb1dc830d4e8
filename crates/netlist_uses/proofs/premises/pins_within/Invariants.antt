use Rattle.std.proofs.Common.{All, map, take}
use Rattle.circuit_types.specs.declared.nets.Pin.{Pin}
use Rattle.circuit_types.specs.DataSources.{IsWithin}
use Rattle.netlist_uses.proofs.premises.pins_within.Given as goal

abbrev pub invariant-loop-pin : goal.invariant-loop-pin
invariant-loop-pin l = All (IsWithin l.nets) (map (λ (pin : Pin). pin.source) (take l.pin-index l.cell.pins))
