use Rattle.std.proofs.Common.{◌≡◌, ◌++◌, drop}
use Rattle.share_notes.specs.Clocks.{misread_wires}
use Rattle.share_notes.specs.Known.{is_held}
use Rattle.share_notes.proofs.clock.push_misread_wires.Given as goal

-- the lines found and those of the wires that are left are all lines
abbrev pub invariant-loop-wire : goal.invariant-loop-wire
invariant-loop-wire l =
    l.lines.items ++ misread_wires (is_held l.clocks.bits) l.sources (drop l.wire-index l.wires)
    ≡ l.initial.lines.items ++ misread_wires (is_held l.clocks.bits) l.sources l.wires
