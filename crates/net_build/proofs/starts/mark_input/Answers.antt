use Rattle.std.proofs.Common.{arith}
use Rattle.net_build.proofs.StartLemmas.{none_marked, mark_more, all_marked, none_input}
use Rattle.net_build.proofs.starts.mark_input.Goals as goal

pub loop-bit-init : goal.loop-bit-init
loop-bit-init c = none_marked c.args.wire.now.first c.args.drivers.now

pub loop-bit-preserved : goal.loop-bit-preserved
loop-bit-preserved c =
    mark_more c.args.wire.now.first c.loop-bit.bit c.args.drivers.now c.loop-bit.drivers (omega arith) (omega (arith, c.requires.within)) c.loop-bit.invariant

pub returns-after-loop-bit : goal.returns-after-loop-bit
returns-after-loop-bit c =
    all_marked c.args.wire.now c.loop-bit.bit c.is_input.result c.args.drivers.now c.loop-bit.drivers c.if-is_input.true c.is_input.ensures (omega arith) c.loop-bit.invariant

pub returns-else-is_input : goal.returns-else-is_input
returns-else-is_input c = none_input c.args.wire.now c.is_input.result c.args.drivers.now c.if-is_input.false c.is_input.ensures
