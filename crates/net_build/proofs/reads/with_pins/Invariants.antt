use Rattle.std.proofs.Common.{List, ◌++◌, take}
use Rattle.circuit_types.specs.declared.nets.Pin.{Pin}
use Rattle.net_build.specs.Reading.{AreReadFaults}
use Rattle.net_build.proofs.reads.with_pins.Given as goal

abbrev pub invariant-loop-pin : goal.invariant-loop-pin
invariant-loop-pin l = (earlier : List Pin) → AreReadFaults earlier l.fn.before → AreReadFaults (earlier ++ take l.pin-index l.pins) l.faults
