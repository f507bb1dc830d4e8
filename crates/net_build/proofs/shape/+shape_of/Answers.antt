use Rattle.std.proofs.Common.{◌∙◌, sym, ap, map, arith}
use Rattle.circuit_types.specs.Signals.{shape}
use Rattle.circuit_types.proofs.Folds.{shape_wire, shape_join}
use Rattle.net_build.specs.Shapes.{with_parts, whole, capped}
use Rattle.net_build.proofs.ShapeLemmas.{start, join_shape, next_part, last_part, capped_part, missing_shape, found_shape}
use Rattle.net_build.proofs.shape.+shape_of.Goals as goal

pub loop-part-init : goal.loop-part-init
loop-part-init t c =
    let ws = c.args.wires.now.list.now in (
      omega arith,
      ap (λ xs. whole (with_parts start (map (shape ws) xs))) c.as_slice-part-items.ensures
          ∙ (join_shape ws (map (shape ws) c.in-Join.parts)
          ∙ sym (ap (λ s. capped (shape ws s)) c.in-Join.is ∙ ap capped (shape_join ws c.in-Join.parts))),
    )

pub loop-part-preserved : goal.loop-part-preserved
loop-part-preserved t c =
    let ws = c.args.wires.now.list.now in
    let width = ap (λ s. s.width) c.beside-joined.ensures in (
      omega (arith, width),
      ap whole (sym (next_part (shape ws) c.loop-part.joined c.beside-joined.result c.as_slice-part-items.result.now c.loop-part.part-index c.part-item.result
          c.loop-part-test.true c.part-item.is (capped_part c.loop-part.joined (shape ws c.part-item.result) c.shape_of.result c.beside-joined.result c.shape_of.ensures c.beside-joined.ensures)))
          ∙ c.loop-part.invariant.1,
    )

pub returns-in-None : goal.returns-in-None
returns-in-None t c =
    let ws = c.args.wires.now.list.now in
    missing_shape ws c.in-Wire.name c.as_slice.result.now c.as_slice.ensures c.in-None.ensures.named
    ∙ sym (ap (λ s. capped (shape ws s)) c.in-Wire.is ∙ ap capped (shape_wire ws c.in-Wire.name))

pub returns-in-Some : goal.returns-in-Some
returns-in-Some t c =
    let ws = c.args.wires.now.list.now in
    found_shape ws c.in-Wire.name c.as_slice.result.now c.in-Some.span c.plain-in-Some.result c.as_slice.ensures c.in-Some.ensures.named c.plain-in-Some.ensures
    ∙ sym (ap (λ s. capped (shape ws s)) c.in-Wire.is ∙ ap capped (shape_wire ws c.in-Wire.name))

pub returns-after-loop-part : goal.returns-after-loop-part
returns-after-loop-part t c =
    let ws = c.args.wires.now.list.now in
    c.whole.ensures
    ∙ (ap whole (sym (last_part (shape ws) c.loop-part.joined c.as_slice-part-items.result.now c.loop-part.part-index c.loop-part-test.false))
    ∙ c.loop-part.invariant.1)
