-- The least of some lines.
use Rattle.std.specs.Prelude.{ℕ, List, Option, Some, None, map, filter, Bool}
use Rattle.circuit_types.specs.Due.{Never, IsLeast}
use Rattle.share_notes.specs.declared.mark.MarkedWire.{MarkedWire}

-- the least line at which the cause holds, or none where it never holds
abbrev pub IsLeastLine : (ℕ → Type 0) → Option ℕ → Type 0
IsLeastLine holds None = Never holds
IsLeastLine holds (Some line) = IsLeast holds line

-- the lines of the wires that pass a test
abbrev pub wire_lines : (MarkedWire → Bool) → List MarkedWire → List ℕ
wire_lines test ws = map (λ (w : MarkedWire). w.line) (filter test ws)
