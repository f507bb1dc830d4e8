-- The numbers of lines change no name.
use Rattle.std.proofs.Common.{◌≡◌, ℕ, ◌+◌, List, [], ◌∷◌, ◌++◌, length, refl, ap, ◌∙◌, sym, subst}
use Rattle.std.specs.Prelude.{IsTrue}
use Rattle.std.specs.List.{AllByRecursion}
use Rattle.circuit_types.specs.declared.tree.Tree.{Tree}
use Rattle.circuit_types.specs.declared.tree.Module.{Module}
use Rattle.circuit_types.specs.declared.tree.Item.{Item}
use Rattle.circuit_types.specs.declared.tree.Item.TheVariants as item
use Rattle.circuit_types.specs.declared.tree.PortConnect.{PortConnect}
use Rattle.rtlil_tree.specs.Names.{are_distinct, wire_name, cell_name, wire_names, cell_names, port_names, module_names, HasPortsOnce, HasItemsOnce, HasNamesOnce}
use Rattle.rtlil_print.specs.PrintedLines.{port_connects_at, item_at, item_height, items_at, module_height, modules_at, with_printed_lines}

module_names_same : (n : ℕ) (ms : List Module) → module_names (modules_at n ms) ≡ module_names ms
module_names_same n [] = refl
module_names_same n (m ∷ ms) = ap (λ l. m.name ∷ l) (module_names_same (n + module_height m) ms)

port_names_same : (n : ℕ) (cs : List PortConnect) → port_names (port_connects_at n cs) ≡ port_names cs
port_names_same n [] = refl
port_names_same n (c ∷ cs) = ap (λ l. c.port ∷ l) (port_names_same (n + 1) cs)

wire_name_same : (n : ℕ) (i : Item) → wire_name (item_at n i) ≡ wire_name i
wire_name_same n (item.Parameter p) = refl
wire_name_same n (item.Wire w) = refl
wire_name_same n (item.Cell c) = refl
wire_name_same n (item.Connect c) = refl

cell_name_same : (n : ℕ) (i : Item) → cell_name (item_at n i) ≡ cell_name i
cell_name_same n (item.Parameter p) = refl
cell_name_same n (item.Wire w) = refl
cell_name_same n (item.Cell c) = refl
cell_name_same n (item.Connect c) = refl

wire_names_same : (n : ℕ) (is : List Item) → wire_names (items_at n is) ≡ wire_names is
wire_names_same n [] = refl
wire_names_same n (i ∷ is) =
    let next = n + item_height i in
    ap (λ l. l ++ wire_names (items_at next is)) (wire_name_same n i) ∙ ap (λ l. wire_name i ++ l) (wire_names_same next is)

cell_names_same : (n : ℕ) (is : List Item) → cell_names (items_at n is) ≡ cell_names is
cell_names_same n [] = refl
cell_names_same n (i ∷ is) =
    let next = n + item_height i in
    ap (λ l. l ++ cell_names (items_at next is)) (cell_name_same n i) ∙ ap (λ l. cell_name i ++ l) (cell_names_same next is)

once : (names same : List (List ℕ)) → names ≡ same → IsTrue (are_distinct same) → IsTrue (are_distinct names)
once names same e h = subst (λ l. IsTrue (are_distinct l)) (sym e) h

item_ports_once : (n : ℕ) (i : Item) → HasPortsOnce i → HasPortsOnce (item_at n i)
item_ports_once n (item.Parameter p) h = h
item_ports_once n (item.Wire w) h = h
item_ports_once n (item.Cell c) h =
    let first = n + length c.attributes + 1 + length c.parameters in
    once (port_names (port_connects_at first c.connects)) (port_names c.connects) (port_names_same first c.connects) h
item_ports_once n (item.Connect c) h = h

ports_once : (n : ℕ) (is : List Item) → AllByRecursion HasPortsOnce is → AllByRecursion HasPortsOnce (items_at n is)
ports_once n [] h = tt
ports_once n (i ∷ is) h = (item_ports_once n i h.0, ports_once (n + item_height i) is h.1)

items_once : (n : ℕ) (is : List Item) → HasItemsOnce is → HasItemsOnce (items_at n is)
items_once n is h = record {
  wires = once (wire_names (items_at n is)) (wire_names is) (wire_names_same n is) h.wires;
  cells = once (cell_names (items_at n is)) (cell_names is) (cell_names_same n is) h.cells;
  ports = ports_once n is h.ports;
}

modules_once : (n : ℕ) (ms : List Module) → AllByRecursion (λ (m : Module). HasItemsOnce m.items) ms → AllByRecursion (λ (m : Module). HasItemsOnce m.items) (modules_at n ms)
modules_once n [] h = tt
modules_once n (m ∷ ms) h = (items_once (n + length m.attributes + 1) m.items h.0, modules_once (n + module_height m) ms h.1)

pub names_once : (t : Tree) → HasNamesOnce t → HasNamesOnce (with_printed_lines t)
names_once t h = record {
  modules = once (module_names (modules_at 1 t.modules)) (module_names t.modules) (module_names_same 1 t.modules) h.modules;
  items = modules_once 1 t.modules h.items;
}
