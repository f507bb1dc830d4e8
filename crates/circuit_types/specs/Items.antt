-- The wires, cells and connects of a module, and how its bits are numbered.
use Rattle.std.specs.Prelude.{◌≡◌, ℕ, ◌+◌, Bool, true, false, not, List, [], ◌∷◌, ◌++◌, length, map, filter, sum_by, find, Option, Some, None, codes, slice_get}
use Rattle.std.specs.Str.{bytes_eq}
use Rattle.std.specs.Option.{option_and_then}
use Rattle.circuit_types.specs.Top.{top_of}
use Rattle.circuit_types.specs.declared.tree.Tree.{Tree}
use Rattle.circuit_types.specs.declared.tree.Module.{Module}
use Rattle.circuit_types.specs.declared.tree.Item.{Item}
use Rattle.circuit_types.specs.declared.tree.Item.TheVariants as item
use Rattle.circuit_types.specs.declared.tree.Wire.{Wire}
use Rattle.circuit_types.specs.declared.tree.Cell.{Cell}
use Rattle.circuit_types.specs.declared.nets.NetWire.{NetWire}

abbrev pub items_of : Option Module → List Item
items_of None = []
items_of (Some unit) = unit.items

-- the items of the module that is verified
abbrev pub top_items : Tree → List Item
top_items tree = items_of (option_and_then (λ k. slice_get tree.modules k) (top_of tree))

-- the wires among the items, in their order
abbrev pub wires : List Item → List Wire
wires [] = []
wires (item.Wire w ∷ items) = w ∷ wires items
wires (other ∷ items) = wires items

-- the cells among the items, in their order
abbrev pub cells : List Item → List Cell
cells [] = []
cells (item.Cell c ∷ items) = c ∷ cells items
cells (other ∷ items) = cells items

-- a cell of the type `$scopeinfo` is passed over, every other one is kept
abbrev pub is_kept : Cell → Bool
is_kept c = not (bytes_eq c.kind (codes "$scopeinfo"))

abbrev pub kept_cells : List Item → List Cell
kept_cells items = filter is_kept (cells items)

-- the wires with the numbers of their bits, the first of which is the given one
abbrev pub numbered : ℕ → List Wire → List NetWire
numbered first [] = []
numbered first (w ∷ ws) =
    record { line = w.line; name = w.name; first = first; width = w.width; port = w.port } ∷ numbered (first + w.width) ws

abbrev pub net_wires : List Item → List NetWire
net_wires items = numbered 0 (wires items)

-- how many bits the wires have together
abbrev pub bit_count : List NetWire → ℕ
bit_count ws = sum_by (λ w. w.width) ws

-- the wire of a name
unfoldable pub wire_named : List NetWire → List ℕ → Option NetWire
wire_named ws name = find (λ w. bytes_eq w.name name) ws
