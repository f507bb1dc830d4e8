use Rattle.std.proofs.Common.{All, subst}
use Rattle.circuit_types.specs.declared.nets.NetCell.{NetCell}
use Rattle.circuit_types.specs.DataSources.{pin_sources, IsWithin}
use Rattle.level_unroll.proofs.Checked.{all_more, all_taken}
use Rattle.netlist_uses.proofs.premises.all_pins_within.Goals as goal

pub loop-cell-preserved : goal.loop-cell-preserved
loop-cell-preserved c =
    all_more (λ (cell : NetCell). All (IsWithin c.args.nets.now) (pin_sources cell)) c.args.nets.now.cells c.as_slice-cell-items.result.now c.loop-cell.cell-index c.cell-item.result c.as_slice-cell-items.ensures c.loop-cell-test.true
    c.loop-cell.invariant (subst (λ (cell : NetCell). All (IsWithin c.args.nets.now) (pin_sources cell)) c.cell-item.is (c.pins_within.ensures c.if-not-pins_within.false))

pub returns : goal.returns
returns c = λ _.
    all_taken (λ (cell : NetCell). All (IsWithin c.args.nets.now) (pin_sources cell)) c.args.nets.now.cells c.as_slice-cell-items.result.now c.loop-cell.cell-index c.as_slice-cell-items.ensures c.loop-cell-test.false c.loop-cell.invariant
