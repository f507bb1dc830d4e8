use Rattle.std.proofs.Common.{map, take, [], ◌∷◌}
use Rattle.circuit_types.specs.Nets.{port_link}
use Rattle.net_build.specs.Faults.{faults_in, AreFaults}
use Rattle.net_build.proofs.faults.cell_faults.Given as goal

abbrev pub invariant-loop-connect : goal.invariant-loop-connect
invariant-loop-connect l = AreFaults (map (port_link l.wires.list.now l.kind) (take l.connect-index l.connect-items)) (l.cell ∷ []) (faults_in l.faults)
