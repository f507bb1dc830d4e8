-- Names that may stand once: of modules, of a module's wires, of its cells, and of a cell's connected ports.
use Rattle.std.specs.Prelude.{ℕ, Bool, true, not, ◌&&◌, List, [], ◌∷◌, map, IsTrue}
use Rattle.std.specs.List.{list_any, flat_map, AllByRecursion}
use Rattle.std.specs.Str.{bytes_eq}
use Rattle.circuit_types.specs.declared.tree.Tree.{Tree}
use Rattle.circuit_types.specs.declared.tree.Module.{Module}
use Rattle.circuit_types.specs.declared.tree.Item.{Item}
use Rattle.circuit_types.specs.declared.tree.Item.TheVariants.{Wire, Cell}
use Rattle.circuit_types.specs.declared.tree.PortConnect.{PortConnect}

abbrev pub is_among : List ℕ → List (List ℕ) → Bool
is_among name names = list_any (bytes_eq name) names

-- no name is among those behind it
abbrev pub are_distinct : List (List ℕ) → Bool
are_distinct [] = true
are_distinct (name ∷ names) = not (is_among name names) && are_distinct names

abbrev pub wire_name : Item → List (List ℕ)
wire_name (Wire w) = w.name ∷ []
wire_name item = []

abbrev pub cell_name : Item → List (List ℕ)
cell_name (Cell c) = c.name ∷ []
cell_name item = []

abbrev pub wire_names : List Item → List (List ℕ)
wire_names items = flat_map wire_name items

abbrev pub cell_names : List Item → List (List ℕ)
cell_names items = flat_map cell_name items

abbrev pub port_names : List PortConnect → List (List ℕ)
port_names connects = map (λ (c : PortConnect). c.port) connects

abbrev pub module_names : List Module → List (List ℕ)
module_names modules = map (λ (m : Module). m.name) modules

-- a cell connects each port once
abbrev pub HasPortsOnce : Item → Type 0
HasPortsOnce (Cell c) = IsTrue (are_distinct (port_names c.connects))
HasPortsOnce item = Unit {0}

-- A wire and a cell may share a name.
pub record HasItemsOnce (items : List Item) : Type 0 where
  pub wires : IsTrue (are_distinct (wire_names items))
  pub cells : IsTrue (are_distinct (cell_names items))
  pub ports : AllByRecursion HasPortsOnce items

pub record HasNamesOnce (tree : Tree) : Type 0 where
  pub modules : IsTrue (are_distinct (module_names tree.modules))
  pub items : AllByRecursion (λ (m : Module). HasItemsOnce m.items) tree.modules
