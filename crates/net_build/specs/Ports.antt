-- The kept cells with the bits on the ports of their kinds.
use Rattle.std.specs.Prelude.{◌≡◌, ℕ, ◌≤◌, List, [], length, take, drop, map, Option, Some, None, slice_range}
use Rattle.std.specs.List.{AllZip}
use Rattle.cell_kinds.specs.Names.{kind_named}
use Rattle.cell_kinds.specs.declared.kind.CellKind.{CellKind}
use Rattle.circuit_types.specs.Drives.{output_connect}
use Rattle.circuit_types.specs.Nets.{end_in}
use Rattle.circuit_types.specs.Reads.{Read, cell_reads}
use Rattle.circuit_types.specs.Signals.{signal_bits}
use Rattle.circuit_types.specs.declared.nets.NetWire.{NetWire}
use Rattle.circuit_types.specs.declared.nets.Pin.{Pin}
use Rattle.circuit_types.specs.declared.nets.SignalBit.{SignalBit}
use Rattle.circuit_types.specs.declared.nets.Source.{Source}
use Rattle.circuit_types.specs.declared.tree.Cell.{Cell}
use Rattle.circuit_types.specs.declared.tree.Item.{Item}
use Rattle.circuit_types.specs.declared.tree.Item.TheVariants as item
use Rattle.circuit_types.specs.declared.tree.PortConnect.{PortConnect}
use Rattle.net_build.specs.declared.ports.PortBit.{PortBit}
use Rattle.net_build.specs.declared.ports.Run.{Run}
use Rattle.net_build.specs.declared.ports.PortCell.{PortCell}
use Rattle.net_build.specs.declared.ports.Ports.{Ports}

-- the kind of the cell that the item may be, if it is known
abbrev pub kind_in : Item → Option CellKind
kind_in (item.Cell c) = kind_named c.kind
kind_in other = None

abbrev pub port_bit : Read → PortBit
port_bit r = record { line = r.line; bit = r.bit }

-- what an input that reads this bit reads
abbrev pub pin_at : List Source → PortBit → Pin
pin_at sources b = record { line = b.line; source = end_in sources b.bit }

-- the line of the connect of an output, and its bits
abbrev pub output_line : Option PortConnect → ℕ
output_line None = 0
output_line (Some p) = p.line

abbrev pub output_bits : List NetWire → Option PortConnect → List SignalBit
output_bits ws None = []
output_bits ws (Some p) = signal_bits ws p.signal

-- the run has these elements of the list
pub record IsRunOf {X : Type 0} (list : List X) (run : Run) (elements : List X) : Type 0 where
  pub order : run.first ≤ run.end
  pub within : run.end ≤ length list
  pub are : slice_range list run.first run.end ≡ elements

-- what is known of a kept cell, where these bits are those that the inputs of all cells read and their outputs drive
pub record IsPortCell (ws : List NetWire) (reads : List PortBit) (outputs : List SignalBit) (c : Cell) (p : PortCell) : Type 0 where
  pub line : p.line ≡ c.line
  pub kind : p.kind ≡ kind_named c.kind
  pub inputs : IsRunOf reads p.inputs (map port_bit (cell_reads ws c))
  pub at_line : p.output_line ≡ output_line (output_connect c (kind_named c.kind))
  pub output : IsRunOf outputs p.output (output_bits ws (output_connect c (kind_named c.kind)))

-- these cells are known
abbrev pub KnowsCells : List NetWire → List Cell → List PortCell → Ports → Type 0
KnowsCells ws cs known ports = AllZip (IsPortCell ws ports.reads.items ports.outputs.items) cs known

-- from the cell of this number on, these are known
abbrev pub KnowsNext : List NetWire → List Cell → ℕ → Ports → Type 0
KnowsNext ws cs number ports = KnowsCells ws cs (take (length cs) (drop number ports.cells.items)) ports

abbrev pub KnowsPorts : List NetWire → List Cell → Ports → Type 0
KnowsPorts ws cs ports = KnowsCells ws cs ports.cells.items ports
