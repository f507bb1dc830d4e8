use Rattle.std.proofs.Common.{◌≡◌, ◌++◌, drop}
use Rattle.std.specs.List.{flat_map}
use Rattle.share_notes.specs.Clocks.{misread_pins}
use Rattle.share_notes.specs.Known.{is_held}
use Rattle.share_notes.proofs.clock.push_misread_cells.Given as goal

-- the lines found and those of the cells that are left are all lines
abbrev pub invariant-loop-cell : goal.invariant-loop-cell
invariant-loop-cell l =
    l.lines.items ++ flat_map (misread_pins (is_held l.clocks.bits)) (drop l.cell-index l.cells)
    ≡ l.initial.lines.items ++ flat_map (misread_pins (is_held l.clocks.bits)) l.cells
