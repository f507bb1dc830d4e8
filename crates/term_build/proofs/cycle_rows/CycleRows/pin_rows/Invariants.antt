use Rattle.std.proofs.Common.{◌≡◌, map, take}
use Rattle.circuit_types.specs.declared.nets.Pin.{Pin}
use Rattle.term_build.specs.Building.{row_kept}
use Rattle.term_build.proofs.cycle_rows.CycleRows.pin_rows.Given as goal

abbrev pub invariant-loop-pin : goal.invariant-loop-pin
invariant-loop-pin l = l.rows.items ≡ map (λ (pin : Pin). row_kept l.self pin.source) (take l.pin-index l.pins)
