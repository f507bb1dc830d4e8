-- The numbers of lines are not printed.
use Rattle.std.proofs.Common.{◌≡◌, ℕ, ◌+◌, List, [], ◌∷◌, ◌++◌, length, refl, ap, ◌∙◌}
use Rattle.std.specs.List.{flat_map}
use Rattle.circuit_types.specs.declared.tree.Tree.{Tree}
use Rattle.circuit_types.specs.declared.tree.Module.{Module}
use Rattle.circuit_types.specs.declared.tree.Item.{Item}
use Rattle.circuit_types.specs.declared.tree.Item.TheVariants as item
use Rattle.circuit_types.specs.declared.tree.Parameter.{Parameter}
use Rattle.circuit_types.specs.declared.tree.Cell.{Cell}
use Rattle.circuit_types.specs.declared.tree.PortConnect.{PortConnect}
use Rattle.rtlil_print.specs.Printed.{item_indent, module_indent, inside_indent, attribute_lines, parameter_line, port_connect_line, cell_line, module_line, end_line, inside_lines, cell_lines, item_lines, module_lines, printed}
use Rattle.rtlil_print.specs.PrintedLines.{parameters_at, port_connects_at, cell_at, item_at, item_height, items_at, module_at, module_height, modules_at, with_printed_lines}

parameters_same : (indent : List ℕ) (n : ℕ) (ps : List Parameter) → flat_map (parameter_line indent) (parameters_at n ps) ≡ flat_map (parameter_line indent) ps
parameters_same indent n [] = refl
parameters_same indent n (p ∷ ps) = ap (λ text. parameter_line indent p ++ text) (parameters_same indent (n + 1) ps)

connects_same : (indent : List ℕ) (n : ℕ) (cs : List PortConnect) → flat_map (port_connect_line indent) (port_connects_at n cs) ≡ flat_map (port_connect_line indent) cs
connects_same indent n [] = refl
connects_same indent n (c ∷ cs) = ap (λ text. port_connect_line indent c ++ text) (connects_same indent (n + 1) cs)

inside_same : (n : ℕ) (c : Cell) → inside_lines (cell_at n c) ≡ inside_lines c
inside_same n c =
    let first = n + length c.attributes + 1 in
    let connects = port_connects_at (first + length c.parameters) c.connects in
    ap (λ text. text ++ flat_map (port_connect_line inside_indent) connects) (parameters_same inside_indent first c.parameters)
    ∙ ap (λ text. flat_map (parameter_line inside_indent) c.parameters ++ text) (connects_same inside_indent (first + length c.parameters) c.connects)

item_same : (n : ℕ) (i : Item) → item_lines (item_at n i) ≡ item_lines i
item_same n (item.Parameter p) = refl
item_same n (item.Wire w) = refl
item_same n (item.Cell c) = ap (λ text. attribute_lines item_indent c.attributes ++ (cell_line c ++ (text ++ end_line item_indent))) (inside_same n c)
item_same n (item.Connect c) = refl

items_same : (n : ℕ) (is : List Item) → flat_map item_lines (items_at n is) ≡ flat_map item_lines is
items_same n [] = refl
items_same n (i ∷ is) =
    let next = n + item_height i in
    ap (λ text. text ++ flat_map item_lines (items_at next is)) (item_same n i) ∙ ap (λ text. item_lines i ++ text) (items_same next is)

module_same : (n : ℕ) (m : Module) → module_lines (module_at n m) ≡ module_lines m
module_same n m =
    ap (λ text. attribute_lines module_indent m.attributes ++ (module_line m.name ++ (text ++ end_line module_indent)))
    (items_same (n + length m.attributes + 1) m.items)

modules_same : (n : ℕ) (ms : List Module) → flat_map module_lines (modules_at n ms) ≡ flat_map module_lines ms
modules_same n [] = refl
modules_same n (m ∷ ms) =
    let next = n + module_height m in
    ap (λ text. text ++ flat_map module_lines (modules_at next ms)) (module_same n m) ∙ ap (λ text. module_lines m ++ text) (modules_same next ms)

pub same_text : (t : Tree) → printed (with_printed_lines t) ≡ printed t
unfolding printed
same_text t = modules_same 1 t.modules
