use Rattle.std.proofs.Common.{◌∙◌, ◌++◌, ap, subst, arith, rules, take, drop, length}
use Rattle.std.proofs.lemmas.Result.{on_ok_weaker}
use Rattle.circuit_types.specs.Signals.{shape, signal_bits}
use Rattle.circuit_types.specs.declared.signal.Signal as signal
use Rattle.net_build.specs.Shapes.{IsGood}
use Rattle.net_build.proofs.BitLemmas.{good_part_of, bits_length, all_parts, part_written, slice_parts, slice_written, value_written, value_wide, wire_written, none_bad}
use Rattle.net_build.proofs.expand.+push_bits.Goals as goal

pub loop-k-init : goal.loop-k-init
loop-k-init t c =
    let ws = c.args.wires.now.list.now in
    let all = all_parts ws c.args.signal.now c.in-Join.parts c.as_slice-parts.result.now c.in-Join.is c.as_slice-parts.ensures in (
      omega arith,
      omega (arith, ap length all, bits_length ws c.args.signal.now c.requires.good, c.requires.within),
      ap (λ xs. c.args.bits.now.items ++ take c.args.count (drop c.args.low xs)) all,
    )

pub width_of-width-requires : goal.width_of-width-requires
width_of-width-requires t c =
    good_part_of c.args.wires.now.list.now c.args.signal.now c.in-Join.parts c.as_slice-parts.result.now _ c.index-parts-k.result
    c.in-Join.is c.as_slice-parts.ensures c.requires.good (omega arith) c.index-parts-k.is

pub loop-k-preserved : goal.loop-k-preserved
loop-k-preserved t c =
    let ws = c.args.wires.now.list.now in
    let good = good_part_of ws c.args.signal.now c.in-Join.parts c.as_slice-parts.result.now _ c.index-parts-k.result
    c.in-Join.is c.as_slice-parts.ensures c.requires.good (omega arith) c.index-parts-k.is in
    let wide = bits_length ws c.index-parts-k.result good in
    let next = part_written (signal_bits ws) c.as_slice-parts.result.now c.loop-k.k c.index-parts-k.result c.loop-k.low c.loop-k.count c.min-skipped.result c.min-taken.result
    c.loop-k.bits.items c.push_bits-in-loop-k.new.bits.items _ c.loop-k-test.true c.loop-k.invariant.0 c.index-parts-k.is
    (omega (arith, wide, c.width_of-width.ensures, c.min-skipped.ensures)) (omega (arith, wide, c.width_of-width.ensures, c.min-taken.ensures)) c.in_ok-push_bits-in-Join.ensures
    c.loop-k.invariant.1 c.loop-k.invariant.2 in
    (omega arith, next.0, next.1)

pub push_bits-requires-in-loop-k : goal.push_bits-requires-in-loop-k
push_bits-requires-in-loop-k t c =
    let ws = c.args.wires.now.list.now in
    let good = good_part_of ws c.args.signal.now c.in-Join.parts c.as_slice-parts.result.now _ c.index-parts-k.result
    c.in-Join.is c.as_slice-parts.ensures c.requires.good (omega arith) c.index-parts-k.is in
    (search (rules, signal.the_lemmas, c.in-Join.is), (good, omega (arith, c.width_of-width.ensures, c.min-skipped.ensures, c.min-taken.ensures)))

pub push_bits-requires : goal.push_bits-requires
push_bits-requires t c =
    let ws = c.args.wires.now.list.now in
    let p = slice_parts ws c.args.signal.now c.in-Slice.of c.get.result.now c.in-Slice.high c.in-Slice.from c.args.low c.args.count c.in-Slice.is c.get.ensures c.requires.good c.requires.within in
    (search (rules, signal.the_lemmas, c.in-Slice.is), (p.0, p.1))

pub returns-in-Value : goal.returns-in-Value
returns-in-Value t c =
    let w = value_wide c.args.wires.now.list.now c.args.signal.now c.in-Value.value c.in-Value.is in
    on_ok_weaker c.push_value.result
    (λ h. h ∙ ap (λ xs. c.args.bits.now.items ++ xs) (value_written c.args.wires.now.list.now c.args.signal.now c.in-Value.value c.args.low c.args.count c.in-Value.is (omega (arith, w, c.requires.within))))
    c.push_value.ensures

pub returns-in-Some : goal.returns-in-Some
returns-in-Some t c =
    on_ok_weaker c.push_nets.result
    (λ h. h ∙ ap (λ xs. c.args.bits.now.items ++ xs) (wire_written c.args.wires.now.list.now c.args.signal.now c.in-Wire.name c.as_slice.result.now c.in-Some.span c.args.low c.args.count
    c.in-Wire.is c.as_slice.ensures c.in-Some.ensures.named c.requires.within))
    c.push_nets.ensures

pub returns-in-None : goal.returns-in-None
returns-in-None t c =
    let ws = c.args.wires.now.list.now in
    absurd (none_bad ws c.in-Wire.name c.as_slice.result.now c.as_slice.ensures c.in-None.ensures.named (subst (λ s. IsGood (shape ws s)) c.in-Wire.is c.requires.good))

pub returns-in-Slice : goal.returns-in-Slice
returns-in-Slice t c =
    on_ok_weaker c.push_bits.result
    (λ h. h ∙ ap (λ xs. c.args.bits.now.items ++ xs) (slice_written c.args.wires.now.list.now c.args.signal.now c.in-Slice.of c.get.result.now c.in-Slice.high c.in-Slice.from c.args.low c.args.count
    c.in-Slice.is c.get.ensures c.requires.good c.requires.within))
    c.push_bits.ensures
