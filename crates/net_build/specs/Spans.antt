-- Where the bits of a name are.
use Rattle.std.specs.Prelude.{◌≡◌, ℕ, List, Option, option_map}
use Rattle.name_table.specs.Names.{value_of}
use Rattle.circuit_types.specs.Items.{wire_named}
use Rattle.circuit_types.specs.declared.nets.NetWire.{NetWire}
use Rattle.net_build.specs.declared.wires.Span.{Span}

abbrev pub span_of : NetWire → Span
span_of w = record { first = w.first; width = w.width }

-- where the bits of the wire of that name are
unfoldable pub span_named : List NetWire → List ℕ → Option Span
span_named ws name = option_map span_of (wire_named ws name)

-- the table has the span of each name
abbrev pub KnowsSpans : List NetWire → List (List ℕ × Span) → Type 0
KnowsSpans ws spans = (name : List ℕ) → value_of name spans ≡ span_named ws name
