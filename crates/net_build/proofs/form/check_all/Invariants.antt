use Rattle.std.proofs.Common.{◌≡◌, None, take}
use Rattle.circuit_types.specs.Items.{kept_cells}
use Rattle.circuit_types.specs.Nets.{links}
use Rattle.net_build.specs.Faults.{faults_in, AreFaults, refusal_in}
use Rattle.net_build.specs.Ports.{KnowsPorts}
use Rattle.net_build.proofs.form.check_all.Given as goal

abbrev pub invariant-loop-item : goal.invariant-loop-item
invariant-loop-item l = AreFaults (links l.wires.list.now (take l.item-index l.items)) (kept_cells (take l.item-index l.items)) (faults_in l.faults)
    × (refusal_in (faults_in l.faults) ≡ None → KnowsPorts l.wires.list.now (kept_cells (take l.item-index l.items)) l.ports)
