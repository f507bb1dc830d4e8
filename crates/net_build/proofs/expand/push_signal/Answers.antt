use Rattle.std.proofs.Common.{◌∙◌, ◌++◌, ap, subst}
use Rattle.std.proofs.lemmas.Result.{on_ok_weaker}
use Rattle.circuit_types.specs.Signals.{shape}
use Rattle.net_build.specs.Shapes.{IsGood}
use Rattle.net_build.proofs.BitLemmas.{wire_whole, slice_whole, all_taken, none_bad}
use Rattle.net_build.proofs.expand.push_signal.Goals as goal

pub returns-in-Some : goal.returns-in-Some
returns-in-Some c =
    on_ok_weaker c.push_nets.result
    (λ h. h ∙ ap (λ xs. c.args.bits.now.items ++ xs) (wire_whole c.args.wires.now.list.now c.args.signal.now c.in-Wire.name c.as_slice.result.now c.in-Some.span
    c.in-Wire.is c.as_slice.ensures c.in-Some.ensures.named))
    c.push_nets.ensures

pub returns-in-None : goal.returns-in-None
returns-in-None c =
    let ws = c.args.wires.now.list.now in
    absurd (none_bad ws c.in-Wire.name c.as_slice.result.now c.as_slice.ensures c.in-None.ensures.named (subst (λ s. IsGood (shape ws s)) c.in-Wire.is c.requires))

pub push_bits-requires : goal.push_bits-requires
push_bits-requires c =
    let p = slice_whole c.args.wires.now.list.now c.args.signal.now c.in-Slice.of c.get.result.now c.in-Slice.high c.in-Slice.low c.in-Slice.is c.get.ensures c.requires in
    record { good = p.0; within = p.1 }

pub returns-in-Slice : goal.returns-in-Slice
returns-in-Slice c =
    on_ok_weaker c.push_bits.result
    (λ h. h ∙ ap (λ xs. c.args.bits.now.items ++ xs)
    (slice_whole c.args.wires.now.list.now c.args.signal.now c.in-Slice.of c.get.result.now c.in-Slice.high c.in-Slice.low c.in-Slice.is c.get.ensures c.requires).4)
    c.push_bits.ensures

pub returns-in_default : goal.returns-in_default
returns-in_default c =
    on_ok_weaker c.push_bits-in_default.result
    (λ h. h ∙ ap (λ xs. c.args.bits.now.items ++ xs) (all_taken c.args.wires.now.list.now c.args.signal.now c.width_of.result c.requires c.width_of.ensures))
    c.push_bits-in_default.ensures
