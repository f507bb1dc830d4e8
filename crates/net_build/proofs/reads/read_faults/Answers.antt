use Rattle.std.proofs.Common.{refl, take, map, filter, None}
use Rattle.std.specs.List.{flat_map}
use Rattle.circuit_types.specs.Nets.{pin_of}
use Rattle.circuit_types.specs.Reads.{is_output, wire_reads}
use Rattle.circuit_types.specs.declared.nets.NetCell.{NetCell}
use Rattle.net_build.proofs.ReadLemmas.{no_pins, cell_pins_more, cell_pins_all}
use Rattle.net_build.proofs.reads.read_faults.Goals as goal

pub loop-cell-init : goal.loop-cell-init
loop-cell-init c = no_pins (record { undriven = None; unknown = None }) refl refl

pub loop-cell-preserved : goal.loop-cell-preserved
loop-cell-preserved c =
    cell_pins_more c.args.cells.now c.loop-cell.cell-index c.cell-item.result c.as_slice.result.now c.with_pins-faults.result c.loop-cell-test.true c.cell-item.is c.as_slice.ensures
    (c.with_pins-faults.ensures (flat_map (λ (of : NetCell). of.pins) (take c.loop-cell.cell-index c.args.cells.now)) c.loop-cell.invariant)

pub returns : goal.returns
returns c =
    cell_pins_all c.args.cells.now c.loop-cell.cell-index (map (pin_of c.args.sources.now) (flat_map wire_reads (filter (λ w. is_output w.port) c.args.wires.now))) c.with_outputs.result
    c.loop-cell-test.false (c.with_outputs.ensures (flat_map (λ (of : NetCell). of.pins) (take c.loop-cell.cell-index c.args.cells.now)) c.loop-cell.invariant)
