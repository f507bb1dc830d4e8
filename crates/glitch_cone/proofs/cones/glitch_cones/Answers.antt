use Rattle.std.proofs.Common.{◌<◌, ◌≤◌, ◌+◌, length, get_or, refl, sym, ap, subst, arith}
use Rattle.glitch_cone.proofs.Halfway.{order_within, first_halfway, halfway_more}
use Rattle.glitch_cone.proofs.Seen.{counts_stopped, counts_all}
use Rattle.glitch_cone.proofs.cones.glitch_cones.Goals as goal

pub loop-cell-init : goal.loop-cell-init
loop-cell-init c = first_halfway c.args.circuit.now c.args.sources.now c.args.places.now c.requires.places c.requires.levelled c.in_ok-cones.cones c.in_ok-cones.ensures

pub returns-then-cones-most : goal.returns-then-cones-most
returns-then-cones-most c roles probed =
    counts_stopped c.args.circuit.now c.args.sources.now c.args.places.now c.requires.places c.requires.levelled roles probed c.loop-cell.cell-index c.loop-cell.cones c.loop-cell.invariant c.args.most c.if-cones-most.true

pub follow-requires-clause-within : goal.follow-requires-clause-within
follow-requires-clause-within c =
    let lt : c.loop-cell.cell-index < length c.args.circuit.now.order = omega (arith, c.loop-cell-test.true, ap length c.as_slice-cell-items.ensures) in
    subst (λ xs. get_or xs c.loop-cell.cell-index 0 < length c.args.circuit.now.nets.cells) (sym c.as_slice-cell-items.ensures)
    (order_within c.args.circuit.now c.args.sources.now c.args.places.now c.requires.places c.requires.levelled c.loop-cell.cell-index lt)

pub loop-cell-preserved : goal.loop-cell-preserved
loop-cell-preserved c =
    let lt : c.loop-cell.cell-index < length c.args.circuit.now.order = omega (arith, c.loop-cell-test.true, ap length c.as_slice-cell-items.ensures) in
    halfway_more c.args.circuit.now c.args.sources.now c.args.places.now c.requires.places c.requires.levelled c.requires.wired c.loop-cell.cell-index (c.loop-cell.cell-index + 1) refl lt
    (get_or c.as_slice-cell-items.result.now c.loop-cell.cell-index 0) c.loop-cell.cones c.follow.new.self
    (ap (λ xs. get_or xs c.loop-cell.cell-index 0) c.as_slice-cell-items.ensures) c.in_ok-follow.ensures c.loop-cell.invariant

pub returns : goal.returns
returns c roles probed =
    let le : length c.args.circuit.now.order ≤ c.loop-cell.cell-index = omega (arith, c.loop-cell-test.false, ap length c.as_slice-cell-items.ensures) in
    counts_all c.args.circuit.now c.args.sources.now c.args.places.now c.requires.places c.requires.levelled roles probed c.loop-cell.cell-index c.loop-cell.cones c.loop-cell.invariant c.args.most le
