use Rattle.net_build.proofs.PortLemmas.{reads_done}
use Rattle.net_build.proofs.ports.push_reads.Goals as goal

pub returns : goal.returns
returns c =
    reads_done c.args.wires.now.list.now c.args.connect.now c.clear.new.self.items c.push_signal.new.bits.items c.as_slice-bit-items.result.now c.loop-bit.bit-index c.args.reads.now.items c.loop-bit.reads.items
    c.clear.ensures.items c.as_slice-bit-items.ensures.value c.in_ok-push_signal.ensures c.loop-bit-test.false c.loop-bit.invariant
