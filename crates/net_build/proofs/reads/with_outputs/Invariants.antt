use Rattle.std.proofs.Common.{List, ◌++◌, take, map, filter}
use Rattle.std.specs.List.{flat_map}
use Rattle.circuit_types.specs.Nets.{pin_of}
use Rattle.circuit_types.specs.Reads.{is_output, wire_reads}
use Rattle.circuit_types.specs.declared.nets.Pin.{Pin}
use Rattle.net_build.specs.Reading.{AreReadFaults}
use Rattle.net_build.proofs.reads.with_outputs.Given as goal

abbrev pub invariant-loop-wire : goal.invariant-loop-wire
invariant-loop-wire l = (earlier : List Pin) → AreReadFaults earlier l.fn.before
    → AreReadFaults (earlier ++ map (pin_of l.sources) (flat_map wire_reads (filter (λ w. is_output w.port) (take l.wire-index l.wires)))) l.faults
