-- Items put one after another, each on its line, and the cells with their names.
use Rattle.std.specs.Prelude.{◌≡◌, ℕ, ◌+◌, ◌*◌, ◌^◌, ◌<◌, ◌≤◌, List, [], ◌∷◌, ◌++◌, length, sum_by}
use Rattle.circuit_types.specs.Items.{cells}
use Rattle.circuit_types.specs.declared.signal.Signal.{Signal}
use Rattle.circuit_types.specs.declared.tree.Item.{Item}
use Rattle.circuit_types.specs.declared.tree.PortConnect.{PortConnect}
use Rattle.rtlil_print.specs.PrintedLines.{item_height, items_at}
use Rattle.gadget_maker.specs.Gadget.{named_from}
use Rattle.gadget_maker.specs.declared.listing.Listing.{Listing}

-- a cell's connect on its line, to the port of this name
abbrev pub on_port : ℕ → List ℕ → Signal → PortConnect
on_port line port s = record { line = line; port = port; signal = s }

-- the items from a line on, their cells named from a number on
abbrev pub placed : ℕ → ℕ → List Item → List Item
placed line number more = items_at line (named_from number more)

-- The items stand behind those before; no more than so many were put.
pub record Puts (before after : Listing) (most : ℕ) (more : List Item) : Type 0 where
  pub listed : after.items.items ≡ before.items.items ++ placed before.line before.cells more
  pub next_line : after.line ≡ before.line + sum_by item_height more
  pub next_cell : after.cells ≡ before.cells + length (cells more)
  pub low_line : after.line ≤ before.line + 5 * most
  pub low_cell : after.cells ≤ before.cells + most

-- so many more items have lines and numbers
pub record HasRoom (listing : Listing) (most : ℕ) : Type 0 where
  pub line_room : listing.line + 5 * most < 2 ^ 32
  pub cell_room : listing.cells + most < 2 ^ 32
