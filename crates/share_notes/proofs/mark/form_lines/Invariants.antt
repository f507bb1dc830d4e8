use Rattle.std.proofs.Common.{◌≡◌, ◌++◌, drop}
use Rattle.share_notes.specs.Causes.{form_lines}
use Rattle.share_notes.proofs.mark.form_lines.Given as goal

-- the lines found and those of the wires that are left are all lines
abbrev pub invariant-loop-wire : goal.invariant-loop-wire
invariant-loop-wire l = l.lines.items ++ form_lines (drop l.wire-index l.wires) ≡ form_lines l.wires
