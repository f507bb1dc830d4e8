use Rattle.std.proofs.Common.{◌++◌, ◌-◌, arith}
use Rattle.net_build.proofs.ReadLemmas.{wire_pins, wire_pins_none, wire_pins_more, wire_pins_all}
use Rattle.net_build.proofs.reads.with_bits.Goals as goal

pub loop-bit-init : goal.loop-bit-init
loop-bit-init c = λ earlier h. wire_pins_none c.args.sources.now c.args.wire.now c.args.wire.now.first earlier c.args.before (omega arith) h

pub loop-bit-preserved : goal.loop-bit-preserved
loop-bit-preserved c = λ earlier h.
    wire_pins_more c.args.sources.now c.args.wire.now c.loop-bit.bit earlier c.end_of.result c.with_pin-faults.result (omega arith) c.end_of.ensures
    (c.with_pin-faults.ensures (earlier ++ wire_pins c.args.sources.now c.args.wire.now (c.loop-bit.bit - c.args.wire.now.first)) (c.loop-bit.invariant earlier h))

pub returns : goal.returns
returns c = λ earlier h.
    wire_pins_all c.args.sources.now c.args.wire.now c.loop-bit.bit earlier c.loop-bit.faults (omega arith) (c.loop-bit.invariant earlier h)
