-- What the nets of a module are, and which refusal of a module is due before it has nets.
use Rattle.std.specs.Prelude.{◌≡◌, ℕ, ◌<◌, Bool, true, false, ◌&&◌, ◌||◌, ◌==◌, not, is_none, is_some, List, [], ◌∷◌, ◌++◌, length, map, filter, IsTrue, Contains, Any, slice_index, slice_index_or, if◌then◌else◌, Option, Some, None}
use Rattle.std.specs.List.{flat_map, list_any, list_all}
use Rattle.std.specs.Str.{bytes_eq}
use Rattle.cell_kinds.specs.Cells.{input_letters, output_letter}
use Rattle.cell_kinds.specs.Names.{kind_named}
use Rattle.cell_kinds.specs.declared.kind.CellKind.{CellKind}
use Rattle.circuit_types.specs.Due.{Cause, at_lines, of_all}
use Rattle.circuit_types.specs.Items.{cells, is_kept, kept_cells, net_wires, bit_count}
use Rattle.circuit_types.specs.Signals.{Shape, shape, signal_bits}
use Rattle.circuit_types.specs.Drives.{Drive, port_name, connect_of, output_connect, drives, redriven, Ends, EndsNowhere, EndsAt}
use Rattle.circuit_types.specs.Reads.{Read, letters, cell_reads, reads}
use Rattle.circuit_types.specs.declared.tree.Item.{Item}
use Rattle.circuit_types.specs.declared.tree.Item.TheVariants as item
use Rattle.circuit_types.specs.declared.tree.Cell.{Cell}
use Rattle.circuit_types.specs.declared.tree.PortConnect.{PortConnect}
use Rattle.circuit_types.specs.declared.signal.Signal.{Signal}
use Rattle.circuit_types.specs.declared.refusal.Refusal.TheVariants.{UnsupportedCell, Hierarchy, NoWire, BadSlice, WidthMismatch, PortMissing, TwoDrivers, Undriven, UnknownBit, Limit}
use Rattle.circuit_types.specs.declared.refusal.Which.TheVariants.{NetBits, Cells, SignalWidth}
use Rattle.circuit_types.specs.declared.nets.Nets.{Nets}
use Rattle.circuit_types.specs.declared.nets.NetWire.{NetWire}
use Rattle.circuit_types.specs.declared.nets.NetCell.{NetCell}
use Rattle.circuit_types.specs.declared.nets.Pin.{Pin}
use Rattle.circuit_types.specs.declared.nets.SignalBit.{SignalBit}
use Rattle.circuit_types.specs.declared.nets.SignalBit.TheVariants as bit
use Rattle.circuit_types.specs.declared.nets.Source.{Source}
use Rattle.circuit_types.specs.declared.nets.Source.TheVariants as source

-- a connect that is looked at: the shapes of its signals, and whether their widths fit
pub record Link : Type 0 where
  pub line : ℕ
  pub sides : List Shape
  pub fits : Bool

-- the letters of all ports of a kind
abbrev pub port_letters : Option CellKind → List ℕ
port_letters None = []
port_letters (Some kind) = input_letters kind ++ output_letter kind ∷ []

abbrev pub is_port : Option CellKind → List ℕ → Bool
is_port kind name = list_any (λ letter. bytes_eq name (port_name letter)) (port_letters kind)

-- the signal on a port of the kind has width 1; on another port it may have any
abbrev pub port_link : List NetWire → Option CellKind → PortConnect → Link
port_link ws kind p = let s = shape ws p.signal in
    record { line = p.line; sides = s ∷ []; fits = not (is_port kind p.port) || s.width == 1 }

-- the connects of a kept cell; of a connect, whose sides have one width; of nothing else
unfoldable pub item_links : List NetWire → Item → List Link
item_links ws (item.Cell c) = if is_kept c then map (port_link ws (kind_named c.kind)) c.connects else []
item_links ws (item.Connect c) = let l = shape ws c.left in let r = shape ws c.right in
    record { line = c.line; sides = l ∷ r ∷ []; fits = l.width == r.width } ∷ []
item_links ws other = []

abbrev pub links : List NetWire → List Item → List Link
links ws items = flat_map (item_links ws) items

abbrev pub is_too_wide : Link → Bool
is_too_wide l = not (list_all (λ s. s.narrow) l.sides)

abbrev pub is_unnamed : Link → Bool
is_unnamed l = not (list_all (λ s. s.named) l.sides)

abbrev pub is_badly_sliced : Link → Bool
is_badly_sliced l = not (list_all (λ s. s.sliced) l.sides)

abbrev pub is_mismatched : Link → Bool
is_mismatched l = not l.fits

-- a type that begins with a backslash is a module of the user's
abbrev pub begins_with_backslash : List ℕ → Bool
begins_with_backslash name = slice_index name 0 == 92

abbrev pub is_module : Cell → Bool
is_module c = is_none (kind_named c.kind) && begins_with_backslash c.kind

abbrev pub is_unsupported : Cell → Bool
is_unsupported c = is_none (kind_named c.kind) && not (begins_with_backslash c.kind)

-- a port of its kind is not connected
abbrev pub lacks_port : Cell → Bool
lacks_port c = list_any (λ letter. is_none (connect_of c letter)) (port_letters (kind_named c.kind))

-- the lines of those that pass a test
abbrev pub cell_lines : (Cell → Bool) → List Item → List ℕ
cell_lines test items = map (λ c. c.line) (filter test (kept_cells items))

abbrev pub link_lines : (Link → Bool) → List NetWire → List Item → List ℕ
link_lines test ws items = map (λ l. l.line) (filter test (links ws items))

-- the most bits that the wires of the top module may have
abbrev pub most_bits : ℕ
most_bits = 1048576

-- the most cells that the top module may have
abbrev pub most_cells : ℕ
most_cells = 1048576

-- The refusals of a module before it has nets, in their order.
unfoldable pub net_causes : List Item → List Cause
net_causes items = let ws = net_wires items in let ds = drives ws items in
    of_all (Limit NetBits) (most_bits < bit_count ws)
    ∷ of_all (Limit Cells) (most_cells < length (cells items))
    ∷ of_all (Limit SignalWidth) (IsTrue (list_any is_too_wide (links ws items)))
    ∷ at_lines (λ l. UnsupportedCell l) (Contains (cell_lines is_unsupported items))
    ∷ at_lines (λ l. Hierarchy l) (Contains (cell_lines is_module items))
    ∷ at_lines (λ l. NoWire l) (Contains (link_lines is_unnamed ws items))
    ∷ at_lines (λ l. BadSlice l) (Contains (link_lines is_badly_sliced ws items))
    ∷ at_lines (λ l. WidthMismatch l) (Contains (link_lines is_mismatched ws items))
    ∷ at_lines (λ l. PortMissing l) (Contains (cell_lines lacks_port items))
    ∷ at_lines (λ l. TwoDrivers l) (Contains (redriven ws [] ds))
    ∷ at_lines (λ l. Undriven l) (λ l. Any (λ r. (r.line ≡ l) × EndsNowhere ws ds r.bit) (reads ws items))
    ∷ at_lines (λ l. UnknownBit l) (λ l. Any (λ r. (r.line ≡ l) × Ends ws ds r.bit source.Unknown) (reads ws items))
    ∷ []

-- where a bit ends, by the list of where the bits of wires end
abbrev pub end_in : List Source → SignalBit → Source
end_in sources (bit.Net k) = slice_index_or sources k source.Missing
end_in sources bit.Zero = source.Zero
end_in sources bit.One = source.One
end_in sources bit.Unknown = source.Unknown

abbrev pub pin_of : List Source → Read → Pin
pin_of sources r = record { line = r.line; source = end_in sources r.bit }

-- the number of the first bit, which is a wire's
abbrev pub first_net : List SignalBit → ℕ
first_net (bit.Net k ∷ bits) = k
first_net other = 0

abbrev pub output_net : List NetWire → Option PortConnect → ℕ
output_net ws None = 0
output_net ws (Some p) = first_net (signal_bits ws p.signal)

abbrev pub net_cell_of : List NetWire → List Source → Cell → Option CellKind → List NetCell
net_cell_of ws sources c None = []
net_cell_of ws sources c (Some k) = record {
  line = c.line;
  kind = k;
  pins = map (pin_of sources) (cell_reads ws c);
  output = output_net ws (output_connect c (Some k));
} ∷ []

-- a kept cell with its kind, what its inputs read, and the bit on its output
unfoldable pub net_cell : List NetWire → List Source → Cell → List NetCell
net_cell ws sources c = net_cell_of ws sources c (kind_named c.kind)

-- the nets of a module
pub record AreNets (items : List Item) (nets : Nets) : Type 0 where
  pub each_wire : nets.wires ≡ net_wires items
  pub each_bit : length nets.sources ≡ bit_count (net_wires items)
  pub ends : (k : ℕ) → k < length nets.sources
      → EndsAt (net_wires items) (drives (net_wires items) items) (bit.Net k) (slice_index_or nets.sources k source.Missing)
  pub each_cell : nets.cells ≡ flat_map (net_cell (net_wires items) nets.sources) (kept_cells items)
