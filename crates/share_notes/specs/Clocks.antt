-- The clock, and what reads it.
use Rattle.std.specs.Prelude.{ℕ, ◌+◌, ◌==◌, ◌&&◌, not, Bool, true, false, if◌then◌else◌, List, ◌++◌, map, filter, drop, slice_index_or}
use Rattle.std.specs.List.{flat_map, list_any, zip, range_with_len}
use Rattle.cell_kinds.specs.Cells.{input_letters}
use Rattle.cell_kinds.specs.declared.kind.CellKind.{CellKind}
use Rattle.cell_kinds.specs.declared.kind.CellKind.TheVariants.{Gate, Flop}
use Rattle.circuit_types.specs.Order.{has}
use Rattle.circuit_types.specs.Reads.{is_output}
use Rattle.circuit_types.specs.declared.nets.NetCell.{NetCell}
use Rattle.circuit_types.specs.declared.nets.NetWire.{NetWire}
use Rattle.circuit_types.specs.declared.nets.Nets.{Nets}
use Rattle.circuit_types.specs.declared.nets.Pin.{Pin}
use Rattle.circuit_types.specs.declared.nets.Source.{Source}
use Rattle.circuit_types.specs.declared.nets.Source.TheVariants as source
use Rattle.share_notes.specs.declared.note.Note.TheVariants as note
use Rattle.share_notes.specs.declared.mark.Mark.{Mark}
use Rattle.share_notes.specs.declared.mark.Mark.TheVariants.{Noted}
use Rattle.share_notes.specs.declared.mark.MarkedWire.{MarkedWire}
use Rattle.share_notes.specs.Lines.{wire_lines}

abbrev pub is_clock_mark : Mark → Bool
is_clock_mark (Noted note.Clock) = true
is_clock_mark other = false

abbrev pub is_clock : MarkedWire → Bool
is_clock w = is_clock_mark w.mark

-- the bits of the clock inputs, which have one each
abbrev pub clock_bits : List MarkedWire → List ℕ
clock_bits ws = map (λ (w : MarkedWire). w.first) (filter is_clock ws)

-- the lines of the clock inputs after the first
abbrev pub further_clocks : List MarkedWire → List ℕ
further_clocks ws = drop 1 (wire_lines is_clock ws)

-- the source is a clock input
abbrev pub is_clock_source : List ℕ → Source → Bool
is_clock_source clocks (source.Input bit) = has clocks bit
is_clock_source clocks other = false

-- the input C of a flip-flop
abbrev pub is_clock_pin : CellKind → ℕ → Bool
is_clock_pin (Gate g) letter = false
is_clock_pin (Flop f) letter = letter == 67

-- a flip-flop's C that is not a clock input, or another input that is one
abbrev pub is_misread : (Source → Bool) → CellKind → (ℕ × Pin) → Bool
is_misread is_clock_input kind pin = if is_clock_pin kind pin.0 then not (is_clock_input pin.1.source) else is_clock_input pin.1.source

abbrev pub misread_pins : (Source → Bool) → NetCell → List ℕ
misread_pins is_clock_input cell =
    map (λ (pin : ℕ × Pin). pin.1.line) (filter (is_misread is_clock_input cell.kind) (zip (input_letters cell.kind) cell.pins))

-- an output wire a bit of which ends at a clock input
abbrev pub ends_at_clock : (Source → Bool) → List Source → NetWire → Bool
ends_at_clock is_clock_input sources w =
    is_output w.port && list_any (λ k. is_clock_input (slice_index_or sources (w.first + k) source.Missing)) (range_with_len 0 w.width)

abbrev pub misread_wires : (Source → Bool) → List Source → List NetWire → List ℕ
misread_wires is_clock_input sources ws = map (λ (w : NetWire). w.line) (filter (ends_at_clock is_clock_input sources) ws)

-- the lines of wrong uses of a clock, in cells and then in output wires
abbrev pub misuses : (Source → Bool) → Nets → List ℕ
misuses is_clock_input nets = flat_map (misread_pins is_clock_input) nets.cells ++ misread_wires is_clock_input nets.sources nets.wires

-- the lines of further clock inputs and of wrong uses of a clock
unfoldable pub clock_lines : List MarkedWire → Nets → List ℕ
clock_lines ws nets = further_clocks ws ++ misuses (is_clock_source (clock_bits ws)) nets
