use Rattle.std.proofs.Common.{◌++◌}
use Rattle.std.specs.List.{flat_map}
use Rattle.share_notes.specs.Clocks.{misread_pins}
use Rattle.share_notes.specs.Known.{is_held}
use Rattle.share_notes.proofs.Clocking.{cells_step}
use Rattle.share_notes.proofs.clock.push_misread_cells.Goals as goal

pub loop-cell-preserved : goal.loop-cell-preserved
loop-cell-preserved c =
    let f = misread_pins (is_held c.args.clocks.now.bits) in
    cells_step f c.args.cells.now c.loop-cell.cell-index c.cell-item.result c.loop-cell.lines.items (c.args.lines.now.items ++ flat_map f c.args.cells.now) c.push_misread_pins.new.lines.items
    c.loop-cell-test.true c.cell-item.is c.loop-cell.invariant c.in_ok-push_misread_pins.ensures
