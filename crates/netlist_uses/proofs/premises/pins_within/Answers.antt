use Rattle.circuit_types.specs.declared.nets.Source.TheVariants as source
use Rattle.circuit_types.specs.DataSources.{IsWithin}
use Rattle.level_unroll.proofs.Checked.{pins_more, pins_taken}
use Rattle.netlist_uses.proofs.premises.pins_within.Goals as goal

pub loop-pin-preserved : goal.loop-pin-preserved
loop-pin-preserved c =
    pins_more (IsWithin c.args.nets.now) c.args.cell.now.pins c.as_slice-pin-items.result.now c.loop-pin.pin-index (record { line = 0; source = source.Input 0 }) c.as_slice-pin-items.ensures c.loop-pin-test.true
    c.loop-pin.invariant (c.is_within.ensures c.if-not-is_within.false)

pub returns : goal.returns
returns c = λ _.
    pins_taken (IsWithin c.args.nets.now) c.args.cell.now.pins c.as_slice-pin-items.result.now c.loop-pin.pin-index c.as_slice-pin-items.ensures c.loop-pin-test.false c.loop-pin.invariant
