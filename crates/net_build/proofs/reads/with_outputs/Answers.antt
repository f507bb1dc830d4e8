use Rattle.std.proofs.Common.{◌++◌, ◌∙◌, ◌+◌, ◌≤◌, take, map, filter, cond, [], subst, sym, ap, refl, append_assoc}
use Rattle.std.specs.List.{flat_map}
use Rattle.std.proofs.lemmas.List.{take_all}
use Rattle.circuit_types.specs.Nets.{pin_of, most_bits}
use Rattle.circuit_types.specs.Reads.{is_output, wire_reads}
use Rattle.circuit_types.specs.declared.nets.NetWire.{NetWire}
use Rattle.net_build.specs.Reading.{AreReadFaults}
use Rattle.net_build.proofs.ReadLemmas.{none_added, outputs_more}
use Rattle.net_build.proofs.EachLemmas.{all_at}
use Rattle.net_build.proofs.reads.with_outputs.Goals as goal

pub loop-wire-init : goal.loop-wire-init
loop-wire-init c = λ earlier h. none_added earlier c.args.before h

pub with_wire-faults-requires : goal.with_wire-faults-requires
with_wire-faults-requires c =
    all_at (λ (w : NetWire). w.first + w.width ≤ most_bits) c.args.wires.now c.loop-wire.wire-index c.wire-item.result c.requires c.loop-wire-test.true c.wire-item.is

pub loop-wire-preserved : goal.loop-wire-preserved
loop-wire-preserved c = λ earlier h.
    let ss = c.args.sources.now in
    let ws = c.args.wires.now in
    let i = c.loop-wire.wire-index in
    let w = c.wire-item.result in
    let done = map (pin_of ss) (flat_map wire_reads (filter (λ v. is_output v.port) (take i ws))) in
    let more = cond (is_output w.port) (map (pin_of ss) (wire_reads w)) [] in
    subst (λ v. AreReadFaults v c.with_wire-faults.result)
    (append_assoc earlier done more ∙ ap (λ v. earlier ++ v) (sym (outputs_more ss ws i w (is_output w.port) c.loop-wire-test.true c.wire-item.is refl)))
    (c.with_wire-faults.ensures (earlier ++ done) (c.loop-wire.invariant earlier h))

pub returns : goal.returns
returns c = λ earlier h.
    subst (λ v. AreReadFaults (earlier ++ map (pin_of c.args.sources.now) (flat_map wire_reads (filter (λ w. is_output w.port) v))) c.loop-wire.faults)
    (take_all c.loop-wire.wire-index c.args.wires.now c.loop-wire-test.false) (c.loop-wire.invariant earlier h)
