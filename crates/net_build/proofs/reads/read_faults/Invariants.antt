use Rattle.std.proofs.Common.{take}
use Rattle.std.specs.List.{flat_map}
use Rattle.net_build.specs.Reading.{AreReadFaults}
use Rattle.net_build.proofs.reads.read_faults.Given as goal

abbrev pub invariant-loop-cell : goal.invariant-loop-cell
invariant-loop-cell l = AreReadFaults (flat_map (λ c. c.pins) (take l.cell-index l.cells)) l.faults
