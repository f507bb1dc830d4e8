use Rattle.std.proofs.Common.{◌≡◌, ◌++◌, drop}
use Rattle.share_notes.specs.Causes.{missing_lines}
use Rattle.share_notes.proofs.mark.missing_lines.Given as goal

-- the lines found and those of the wires that are left are all lines
abbrev pub invariant-loop-wire : goal.invariant-loop-wire
invariant-loop-wire l = l.lines.items ++ missing_lines (drop l.wire-index l.wires) ≡ missing_lines l.wires
