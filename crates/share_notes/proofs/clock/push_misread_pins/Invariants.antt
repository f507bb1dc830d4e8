use Rattle.std.proofs.Common.{◌≡◌, ◌++◌, ℕ, map, length}
use Rattle.std.specs.Prelude.{filter}
use Rattle.std.specs.List.{zip}
use Rattle.circuit_types.specs.declared.nets.Pin.{Pin}
use Rattle.share_notes.specs.Clocks.{is_misread, misread_pins}
use Rattle.share_notes.specs.Known.{is_held}
use Rattle.share_notes.proofs.clock.push_misread_pins.Given as goal

-- the lines found and those of the inputs that are left are all lines
abbrev pub invariant-loop-letters : goal.invariant-loop-letters
invariant-loop-letters l =
    l.lines.items ++ map (λ (pin : ℕ × Pin). pin.1.line) (filter (is_misread (is_held l.clocks.bits) l.cell.kind) (zip l.letters l.pins))
    ≡ l.initial.lines.items ++ misread_pins (is_held l.clocks.bits) l.cell

abbrev pub decreases-loop-letters : goal.decreases-loop-letters
decreases-loop-letters l = length l.letters
