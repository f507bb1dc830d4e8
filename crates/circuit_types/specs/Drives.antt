-- What drives which bit, and where a bit ends when it is followed back through the connects.
use Rattle.std.specs.Prelude.{◌≡◌, ℕ, ◌+◌, ◌<◌, Bool, true, false, ◌&&◌, ◌||◌, ◌==◌, nat_le, nat_lt, not, if◌then◌else◌, List, [], ◌∷◌, ◌++◌, map, Option, Some, None, codes, find, Any}
use Rattle.std.specs.List.{list_any, zip}
use Rattle.std.specs.Str.{bytes_eq}
use Rattle.std.specs.Option.{option_map_or}
use Rattle.cell_kinds.specs.Cells.{output_letter}
use Rattle.cell_kinds.specs.Names.{kind_named}
use Rattle.cell_kinds.specs.declared.kind.CellKind.{CellKind}
use Rattle.circuit_types.specs.Items.{is_kept}
use Rattle.circuit_types.specs.Signals.{signal_bits}
use Rattle.circuit_types.specs.declared.tree.Item.{Item}
use Rattle.circuit_types.specs.declared.tree.Item.TheVariants as item
use Rattle.circuit_types.specs.declared.tree.Cell.{Cell}
use Rattle.circuit_types.specs.declared.tree.PortConnect.{PortConnect}
use Rattle.circuit_types.specs.declared.tree.Port.{Port}
use Rattle.circuit_types.specs.declared.tree.Port.TheVariants as port
use Rattle.circuit_types.specs.declared.nets.NetWire.{NetWire}
use Rattle.circuit_types.specs.declared.nets.SignalBit.{SignalBit}
use Rattle.circuit_types.specs.declared.nets.SignalBit.TheVariants.{Net, Zero, One, Unknown}
use Rattle.circuit_types.specs.declared.nets.Source.{Source}
use Rattle.circuit_types.specs.declared.nets.Source.TheVariants as source

-- what drives a bit: the output of a kept cell, by its number, or another bit
pub data Driver : Type 0 where
  by_cell : (cell : ℕ) → Driver
  by_bit : (bit : SignalBit) → Driver

-- one bit that a statement drives
pub record Drive : Type 0 where
  pub line : ℕ
  pub target : SignalBit
  pub driver : Driver

-- the name of a port in the text: a backslash before its letter
abbrev pub port_name : ℕ → List ℕ
port_name letter = 92 ∷ letter ∷ []

-- the connect of a port
unfoldable pub connect_of : Cell → ℕ → Option PortConnect
connect_of c letter = find (λ p. bytes_eq p.port (port_name letter)) c.connects

-- the letter of the output port, where the kind is known
abbrev pub output_connect : Cell → Option CellKind → Option PortConnect
output_connect c None = None
output_connect c (Some kind) = connect_of c (output_letter kind)

abbrev pub connect_drives : List NetWire → ℕ → Option PortConnect → List Drive
connect_drives ws number None = []
connect_drives ws number (Some p) =
    map (λ bit. record { line = p.line; target = bit; driver = by_cell number }) (signal_bits ws p.signal)

-- a kept cell drives the bits on its output port
unfoldable pub cell_drives : List NetWire → ℕ → Cell → List Drive
cell_drives ws number c = connect_drives ws number (output_connect c (kind_named c.kind))

-- Each statement's drives, in order, the first kept cell having the given number. A connect drives each
-- bit on its left by the bit on its right at the same place.
abbrev pub drives_from : List NetWire → ℕ → List Item → List Drive
drives_from ws number [] = []
drives_from ws number (item.Cell c ∷ items) =
    if is_kept c then cell_drives ws number c ++ drives_from ws (number + 1) items else drives_from ws number items
drives_from ws number (item.Connect c ∷ items) =
    map (λ pair. record { line = c.line; target = pair.0; driver = by_bit pair.1 }) (zip (signal_bits ws c.left) (signal_bits ws c.right))
    ++ drives_from ws number items
drives_from ws number (other ∷ items) = drives_from ws number items

unfoldable pub drives : List NetWire → List Item → List Drive
drives ws items = drives_from ws 0 items

abbrev pub is_input : Port → Bool
is_input (port.Input number) = true
is_input other = false

-- whether a bit is of an input wire
unfoldable pub is_input_bit : List NetWire → ℕ → Bool
is_input_bit ws k = list_any (λ w. is_input w.port && (nat_le w.first k && nat_lt k (w.first + w.width))) ws

abbrev pub is_net : ℕ → SignalBit → Bool
is_net k (Net bit) = bit == k
is_net k other = false

-- The bit ends here: at an input, at the cell that drives it, or at a constant; and where another bit
-- drives it, where that one ends.
pub data Ends (ws : List NetWire) (ds : List Drive) : SignalBit → Source → Type 0 where
  at_zero : Ends ws ds Zero source.Zero
  at_one : Ends ws ds One source.One
  at_unknown : Ends ws ds Unknown source.Unknown
  at_input : (k : ℕ) → is_input_bit ws k ≡ true → Ends ws ds (Net k) (source.Input k)
  at_cell : (k cell : ℕ) → Any (λ d. (d.target ≡ Net k) × (d.driver ≡ by_cell cell)) ds → Ends ws ds (Net k) (source.Cell cell)
  through : (k : ℕ) (bit : SignalBit) (end : Source) → Any (λ d. (d.target ≡ Net k) × (d.driver ≡ by_bit bit)) ds
      → Ends ws ds bit end → Ends ws ds (Net k) end

-- it ends at nothing: it has no driver, or its connects go round
abbrev pub EndsNowhere : List NetWire → List Drive → SignalBit → Type 0
EndsNowhere ws ds bit = (end : Source) → Ends ws ds bit end → ⊥

-- where a bit ends, or Missing where it ends nowhere
abbrev pub EndsAt : List NetWire → List Drive → SignalBit → Source → Type 0
EndsAt ws ds bit source.Missing = EndsNowhere ws ds bit
EndsAt ws ds bit end = Ends ws ds bit end

-- whether a drive of this bit is refused after these: it is constant, an input's, or driven already
abbrev pub is_taken : List NetWire → List Drive → SignalBit → Bool
is_taken ws earlier (Net k) = is_input_bit ws k || list_any (λ d. is_net k d.target) earlier
is_taken ws earlier other = true

-- the lines of the drives that are refused, where the earlier ones stand before all of them
unfoldable pub redriven : List NetWire → List Drive → List Drive → List ℕ
redriven ws earlier [] = []
redriven ws earlier (d ∷ ds) =
    (if is_taken ws earlier d.target then d.line ∷ [] else []) ++ redriven ws (earlier ++ d ∷ []) ds
