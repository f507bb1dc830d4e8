-- What a module's cells and output wires read.
use Rattle.std.specs.Prelude.{ℕ, Bool, true, false, List, [], ◌∷◌, ◌++◌, map, filter, Option, Some, None}
use Rattle.std.specs.List.{flat_map}
use Rattle.cell_kinds.specs.Cells.{input_letters}
use Rattle.cell_kinds.specs.Names.{kind_named}
use Rattle.cell_kinds.specs.declared.kind.CellKind.{CellKind}
use Rattle.circuit_types.specs.Bits.{numbers}
use Rattle.circuit_types.specs.Items.{kept_cells}
use Rattle.circuit_types.specs.Signals.{signal_bits}
use Rattle.circuit_types.specs.Drives.{connect_of}
use Rattle.circuit_types.specs.declared.tree.Item.{Item}
use Rattle.circuit_types.specs.declared.tree.Cell.{Cell}
use Rattle.circuit_types.specs.declared.tree.PortConnect.{PortConnect}
use Rattle.circuit_types.specs.declared.tree.Port.{Port}
use Rattle.circuit_types.specs.declared.tree.Port.TheVariants as port
use Rattle.circuit_types.specs.declared.nets.NetWire.{NetWire}
use Rattle.circuit_types.specs.declared.nets.SignalBit.{SignalBit}
use Rattle.circuit_types.specs.declared.nets.SignalBit.TheVariants.{Net}

-- a bit that is read, and the line that it is read at
pub record Read : Type 0 where
  pub line : ℕ
  pub bit : SignalBit

abbrev pub connect_reads : List NetWire → Option PortConnect → List Read
connect_reads ws None = []
connect_reads ws (Some p) = map (λ b. record { line = p.line; bit = b }) (signal_bits ws p.signal)

-- the input ports of the kind, in the order of the cell table
abbrev pub letters : Option CellKind → List ℕ
letters None = []
letters (Some kind) = input_letters kind

-- what the inputs of a cell read, at the lines of their connects
unfoldable pub cell_reads : List NetWire → Cell → List Read
cell_reads ws c = flat_map (λ letter. connect_reads ws (connect_of c letter)) (letters (kind_named c.kind))

abbrev pub is_output : Port → Bool
is_output (port.Output number) = true
is_output other = false

-- the bits of an output wire, at its line
abbrev pub wire_reads : NetWire → List Read
wire_reads w = map (λ k. record { line = w.line; bit = Net k }) (numbers w.first w.width)

unfoldable pub reads : List NetWire → List Item → List Read
reads ws items = flat_map (cell_reads ws) (kept_cells items) ++ flat_map wire_reads (filter (λ w. is_output w.port) ws)
