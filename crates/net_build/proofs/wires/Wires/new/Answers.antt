use Rattle.net_build.proofs.SpanLemmas.{none_known, step_known, all_known}
use Rattle.net_build.proofs.wires.Wires.new.Goals as goal

pub loop-wire-init : goal.loop-wire-init
loop-wire-init c = none_known c.new-spans.result c.new-spans.ensures

pub loop-wire-preserved : goal.loop-wire-preserved
loop-wire-preserved c =
    step_known c.args.list.now c.loop-wire.wire-index c.wire-item.result c.as_slice.result.now c.span_of.result c.loop-wire.spans c.add.new.self
    c.loop-wire-test.true c.wire-item.is c.as_slice.ensures c.span_of.ensures c.in_ok-add.ensures.names c.loop-wire.invariant

pub invariant_of-result-clause-known : goal.invariant_of-result-clause-known
invariant_of-result-clause-known c = all_known c.args.list.now c.loop-wire.wire-index c.loop-wire.spans c.loop-wire-test.false c.loop-wire.invariant
