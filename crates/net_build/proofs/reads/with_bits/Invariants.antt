use Rattle.std.proofs.Common.{List, ◌++◌, ◌-◌}
use Rattle.circuit_types.specs.declared.nets.Pin.{Pin}
use Rattle.net_build.specs.Reading.{AreReadFaults}
use Rattle.net_build.proofs.ReadLemmas.{wire_pins}
use Rattle.net_build.proofs.reads.with_bits.Given as goal

abbrev pub invariant-loop-bit : goal.invariant-loop-bit
invariant-loop-bit l = (earlier : List Pin) → AreReadFaults earlier l.fn.before
    → AreReadFaults (earlier ++ wire_pins l.sources l.wire (l.bit - l.wire.first)) l.faults
