use Rattle.std.proofs.Common.{◌≡◌, ◌++◌, take, map}
use Rattle.std.specs.List.{flat_map}
use Rattle.circuit_types.specs.Drives.{connect_of}
use Rattle.circuit_types.specs.Reads.{connect_reads}
use Rattle.net_build.specs.Ports.{port_bit}
use Rattle.net_build.proofs.ports.push_inputs.Given as goal

abbrev pub invariant-loop-letter : goal.invariant-loop-letter
invariant-loop-letter l = l.reads.items
    ≡ l.fn.reads.items ++ map port_bit (flat_map (λ letter. connect_reads l.wires.list.now (connect_of l.cell letter)) (take l.letter-index l.letter-items))
