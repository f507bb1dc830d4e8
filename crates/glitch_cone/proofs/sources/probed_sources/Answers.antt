use Rattle.std.proofs.Common.{◌≡◌, ◌+◌, ◌++◌, length, map, refl, ap, ◌∙◌, arith}
use Rattle.std.specs.List.{range_with_len}
use Rattle.circuit_types.specs.declared.nets.Source.TheVariants.{Cell}
use Rattle.circuit_types.specs.Probes.{probed_inputs, probed_sources}
use Rattle.glitch_cone.proofs.Placed.{filled_more}
use Rattle.glitch_cone.proofs.sources.probed_sources.Goals as goal

pub loop-cell-preserved : goal.loop-cell-preserved
loop-cell-preserved c =
    filled_more (λ k. Cell k) (probed_inputs c.args.roles.now.inputs) c.loop-cell.sources.items c.push.new.self.items c.loop-cell.cell (c.loop-cell.cell + 1) (Cell c.loop-cell.cell) refl refl
    c.in_ok-push.ensures.items c.loop-cell.invariant

pub returns : goal.returns
unfolding probed_sources
returns c =
    let all : c.loop-cell.cell ≡ length c.args.nets.now.cells = omega (arith, c.loop-cell-test.false, ap length c.as_slice-cell-end.ensures) in
    c.loop-cell.invariant ∙ ap (λ n. probed_inputs c.args.roles.now.inputs ++ map (λ k. Cell k) (range_with_len 0 n)) all
