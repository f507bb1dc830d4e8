use Rattle.std.proofs.Common.{◌≡◌, ◌++◌, drop}
use Rattle.share_notes.specs.Lines.{wire_lines}
use Rattle.share_notes.specs.Shares.{has_share_note}
use Rattle.share_notes.proofs.shares.share_note_lines.Given as goal

-- the lines found and those of the wires that are left are all lines
abbrev pub invariant-loop-wire : goal.invariant-loop-wire
invariant-loop-wire l = l.lines.items ++ wire_lines has_share_note (drop l.wire-index l.wires) ≡ wire_lines has_share_note l.wires
