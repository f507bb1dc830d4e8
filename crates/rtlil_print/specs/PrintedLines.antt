-- A tree with the numbers of the lines of its printed text.
use Rattle.std.specs.Prelude.{ℕ, ◌+◌, List, [], ◌∷◌, length, sum_by}
use Rattle.circuit_types.specs.declared.tree.Tree.{Tree}
use Rattle.circuit_types.specs.declared.tree.Module.{Module}
use Rattle.circuit_types.specs.declared.tree.Item.{Item}
use Rattle.circuit_types.specs.declared.tree.Item.TheVariants as item
use Rattle.circuit_types.specs.declared.tree.Parameter.{Parameter}
use Rattle.circuit_types.specs.declared.tree.Wire.{Wire}
use Rattle.circuit_types.specs.declared.tree.Cell.{Cell}
use Rattle.circuit_types.specs.declared.tree.Connect.{Connect}
use Rattle.circuit_types.specs.declared.tree.PortConnect.{PortConnect}

abbrev pub parameter_at : ℕ → Parameter → Parameter
parameter_at n p = record p { line = n }

abbrev pub parameters_at : ℕ → List Parameter → List Parameter
parameters_at n [] = []
parameters_at n (p ∷ ps) = parameter_at n p ∷ parameters_at (n + 1) ps

abbrev pub port_connect_at : ℕ → PortConnect → PortConnect
port_connect_at n c = record c { line = n }

abbrev pub port_connects_at : ℕ → List PortConnect → List PortConnect
port_connects_at n [] = []
port_connects_at n (c ∷ cs) = port_connect_at n c ∷ port_connects_at (n + 1) cs

abbrev pub connect_at : ℕ → Connect → Connect
connect_at n c = record c { line = n }

-- attributes stand before a wire and a cell
abbrev pub wire_at : ℕ → Wire → Wire
wire_at n w = record w { line = n + length w.attributes }

abbrev pub cell_at : ℕ → Cell → Cell
cell_at n c = let first = n + length c.attributes in
    record c { line = first; parameters = parameters_at (first + 1) c.parameters; connects = port_connects_at (first + 1 + length c.parameters) c.connects }

-- the item whose first line has the number
abbrev pub item_at : ℕ → Item → Item
item_at n (item.Parameter p) = item.Parameter (parameter_at n p)
item_at n (item.Wire w) = item.Wire (wire_at n w)
item_at n (item.Cell c) = item.Cell (cell_at n c)
item_at n (item.Connect c) = item.Connect (connect_at n c)

-- how many lines it takes
abbrev pub item_height : Item → ℕ
item_height (item.Parameter p) = 1
item_height (item.Wire w) = length w.attributes + 1
item_height (item.Cell c) = length c.attributes + 1 + length c.parameters + length c.connects + 1
item_height (item.Connect c) = 1

abbrev pub items_at : ℕ → List Item → List Item
items_at n [] = []
items_at n (i ∷ is) = item_at n i ∷ items_at (n + item_height i) is

abbrev pub module_at : ℕ → Module → Module
module_at n m = let first = n + length m.attributes in record m { line = first; items = items_at (first + 1) m.items }

abbrev pub module_height : Module → ℕ
module_height m = length m.attributes + 1 + sum_by item_height m.items + 1

abbrev pub modules_at : ℕ → List Module → List Module
modules_at n [] = []
modules_at n (m ∷ ms) = module_at n m ∷ modules_at (n + module_height m) ms

-- the same tree, but for the numbers of lines
abbrev pub with_printed_lines : Tree → Tree
with_printed_lines tree = record { modules = modules_at 1 tree.modules }
