use Rattle.std.proofs.Common.{◌+◌, ◌≤◌, arith}
use Rattle.circuit_types.specs.Items.{bit_count}
use Rattle.circuit_types.specs.declared.nets.NetWire.{NetWire}
use Rattle.net_build.proofs.EachLemmas.{all_at}
use Rattle.net_build.proofs.StartLemmas.{none_started, more_started, all_started}
use Rattle.net_build.proofs.starts.mark_inputs.Goals as goal

pub loop-wire-init : goal.loop-wire-init
loop-wire-init c = none_started c.args.drivers.now c.requires.blank

pub mark_input-requires-clause-within : goal.mark_input-requires-clause-within
mark_input-requires-clause-within c =
    let w = all_at (λ (w : NetWire). w.first + w.width ≤ bit_count c.args.wires.now) c.args.wires.now c.loop-wire.wire-index c.wire-item.result c.requires.within c.loop-wire-test.true c.wire-item.is in
    omega (arith, w, c.requires.size)

pub loop-wire-preserved : goal.loop-wire-preserved
loop-wire-preserved c =
    more_started c.args.wires.now c.loop-wire.wire-index c.wire-item.result c.loop-wire.drivers c.mark_input.new.drivers c.loop-wire-test.true c.wire-item.is c.loop-wire.invariant c.mark_input.ensures

pub returns : goal.returns
returns c =
    all_started c.args.wires.now c.loop-wire.wire-index c.loop-wire.drivers c.loop-wire-test.false (omega (arith, c.requires.size)) c.loop-wire.invariant
