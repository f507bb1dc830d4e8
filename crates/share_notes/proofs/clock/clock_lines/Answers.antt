use Rattle.std.proofs.Common.{List, ◌++◌, ap, ◌∙◌}
use Rattle.std.specs.List.{flat_map}
use Rattle.circuit_types.specs.declared.nets.NetCell.{NetCell}
use Rattle.circuit_types.specs.declared.nets.NetWire.{NetWire}
use Rattle.circuit_types.specs.declared.nets.Source.{Source}
use Rattle.share_notes.specs.Clocks.{misread_pins, misread_wires}
use Rattle.share_notes.specs.Known.{is_held}
use Rattle.share_notes.proofs.Clocking.{lines_are}
use Rattle.share_notes.proofs.clock.clock_lines.Goals as goal

pub returns : goal.returns
returns c =
    let held = is_held c.in_ok-clocks.clocks.bits in
    lines_are c.in_ok-clocks.clocks.bits c.args.wires.now c.args.nets.now c.in_ok-lines.lines.items c.push_misread_cells.new.lines.items c.push_misread_wires.new.lines.items
    c.in_ok-clocks.ensures c.in_ok-lines.ensures
    (c.in_ok-push_misread_cells.ensures ∙ ap (λ (cells : List NetCell). c.in_ok-lines.lines.items ++ flat_map (misread_pins held) cells) c.as_slice.ensures)
    (c.in_ok-push_misread_wires.ensures
    ∙ (ap (λ (sources : List Source). c.push_misread_cells.new.lines.items ++ misread_wires held sources c.as_slice-3.result.now) c.as_slice-2.ensures
    ∙ ap (λ (ws : List NetWire). c.push_misread_cells.new.lines.items ++ misread_wires held c.args.nets.now.sources ws) c.as_slice-3.ensures))
