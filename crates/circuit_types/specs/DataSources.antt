-- What the cells of a netlist read.
use Rattle.std.specs.Prelude.{ℕ, ◌<◌, ◌≤◌, ◌==◌, false, List, [], ◌∷◌, length, map, All, Option, None, Some, position, slice_index_or}
use Rattle.std.specs.Option.{option_map_or}
use Rattle.cell_kinds.specs.Cells.{input_letters}
use Rattle.cell_kinds.specs.declared.kind.CellKind.{CellKind}
use Rattle.cell_kinds.specs.declared.kind.CellKind.TheVariants as kind
use Rattle.cell_kinds.specs.declared.kind.GateKind.TheVariants.{Buf}
use Rattle.circuit_types.specs.declared.circuit.Timing.{Timing}
use Rattle.circuit_types.specs.declared.circuit.Timing.TheVariants.{Settled, Cycles}
use Rattle.circuit_types.specs.declared.nets.NetCell.{NetCell}
use Rattle.circuit_types.specs.declared.nets.Nets.{Nets}
use Rattle.circuit_types.specs.declared.nets.Pin.{Pin}
use Rattle.circuit_types.specs.declared.nets.Source.{Source}
use Rattle.circuit_types.specs.declared.nets.Source.TheVariants as source

-- a cell that reads nothing, for numbers that no cell has
abbrev no_cell : NetCell
no_cell = record { line = 0; kind = kind.Gate Buf; pins = []; output = 0 }

-- a cell by its number
abbrev pub cell_at : Nets → ℕ → NetCell
cell_at nets k = slice_index_or nets.cells k no_cell

-- what its inputs read, in the order of the cell table
abbrev pub pin_sources : NetCell → List Source
pin_sources cell = map (λ (pin : Pin). pin.source) cell.pins

-- what its input of that letter reads
abbrev pub port_source : NetCell → ℕ → Source
port_source cell letter =
    option_map_or (λ place. slice_index_or (pin_sources cell) place source.Missing) (position (λ l. l == letter) (input_letters cell.kind)) source.Missing

-- what the data input D of a flip-flop reads
abbrev pub data_source : NetCell → Source
data_source cell = port_source cell 68

-- one list for a gate, another for a flip-flop
abbrev pub by_kind : CellKind → List Source → List Source → List Source
by_kind (kind.Gate g) of_gate of_flop = of_gate
by_kind (kind.Flop f) of_gate of_flop = of_flop

-- Within a cycle a gate reads its inputs, and a flip-flop reads nothing.
abbrev pub gate_sources : NetCell → List Source
gate_sources cell = by_kind cell.kind (pin_sources cell) []

-- Once all is settled, a gate reads its inputs, and a flip-flop its data input.
abbrev pub settled_sources : NetCell → List Source
settled_sources cell = by_kind cell.kind (pin_sources cell) (data_source cell ∷ [])

-- the data sources of a cell
abbrev pub data_sources : Timing → NetCell → List Source
data_sources Settled = settled_sources
data_sources (Cycles n) = gate_sources

-- the source is a constant, or a bit or a cell that the netlist has
abbrev pub IsWithin : Nets → Source → Type 0
IsWithin nets (source.Input bit) = bit < length nets.sources
IsWithin nets (source.Cell k) = k < length nets.cells
IsWithin nets other = Unit {0}

-- each source that is named is one of the netlist's, and there are at most 1,048,576 bits and as many cells
pub record IsWired (nets : Nets) : Type 0 where
  pub pins : All (λ (cell : NetCell). All (IsWithin nets) (pin_sources cell)) nets.cells
  pub ends : All (IsWithin nets) nets.sources
  pub few_bits : length nets.sources ≤ 1048576
  pub few_cells : length nets.cells ≤ 1048576
