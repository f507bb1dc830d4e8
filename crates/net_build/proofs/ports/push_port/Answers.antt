use Rattle.net_build.proofs.GoodLemmas.{good_port_of}
use Rattle.net_build.proofs.ports.push_port.Goals as goal

pub push_reads-requires : goal.push_reads-requires
push_reads-requires c =
    good_port_of c.args.wires.now.list.now c.args.cell.now c.args.letter c.connect_of.result c.in-Some.connect c.requires c.connect_of.ensures c.in-Some.is
