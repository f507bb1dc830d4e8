use Rattle.std.proofs.Common.{◌≡◌, true, map, take}
use Rattle.std.specs.List.{list_all}
use Rattle.circuit_types.specs.declared.nets.Pin.{Pin}
use Rattle.circuit_types.specs.Order.{is_ready}
use Rattle.level_unroll.specs.Queue.{is_in}
use Rattle.level_unroll.proofs.queue.awaited_pin.Given as goal

abbrev pub invariant-loop-pin : goal.invariant-loop-pin
invariant-loop-pin l = list_all (is_ready (is_in l.listed)) (map (λ (pin : Pin). pin.source) (take l.pin-index l.pins)) ≡ true
