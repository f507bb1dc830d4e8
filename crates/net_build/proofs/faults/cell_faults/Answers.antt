use Rattle.net_build.specs.Faults.{faults_in}
use Rattle.net_build.proofs.FaultLemmas.{next_port, all_ports}
use Rattle.net_build.proofs.faults.cell_faults.Goals as goal

pub loop-connect-preserved : goal.loop-connect-preserved
loop-connect-preserved c =
    next_port c.args.wires.now.list.now c.args.kind c.as_slice-connect-items.result.now c.loop-connect.connect-index c.connect-item.result _
    (faults_in c.loop-connect.faults) (faults_in c.port_faults.result) (faults_in c.both-faults.result) c.loop-connect-test.true c.connect-item.is c.loop-connect.invariant c.port_faults.ensures c.both-faults.ensures

pub returns : goal.returns
returns c =
    all_ports c.args.wires.now.list.now c.args.cell.now c.args.kind c.as_slice-connect-items.result.now c.loop-connect.connect-index (faults_in c.loop-connect.faults)
    c.requires.kept c.requires.kind c.as_slice-connect-items.ensures c.loop-connect-test.false c.loop-connect.invariant
