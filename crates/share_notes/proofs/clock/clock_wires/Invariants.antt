use Rattle.std.proofs.Common.{◌≡◌, ◌++◌, drop}
use Rattle.share_notes.specs.Lines.{wire_lines}
use Rattle.share_notes.specs.Clocks.{is_clock}
use Rattle.share_notes.proofs.clock.clock_wires.Given as goal

-- the lines found and those of the wires that are left are all lines
abbrev pub invariant-loop-wire : goal.invariant-loop-wire
invariant-loop-wire l = l.lines.items ++ wire_lines is_clock (drop l.wire-index l.wires) ≡ wire_lines is_clock l.wires
