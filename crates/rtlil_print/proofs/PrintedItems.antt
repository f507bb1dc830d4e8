-- The lines of cells, items and modules are those of their statements.
use Rattle.std.proofs.Common.{◌≡◌, ℕ, ◌+◌, List, [], ◌∷◌, ◌++◌, length, map, refl, ap, ◌∙◌, sym, subst, arith, length-append}
use Rattle.std.specs.Prelude.{sum_by}
use Rattle.std.specs.List.{flat_map, AllByRecursion}
use Rattle.std.proofs.lemmas.List.{length-map}
use Rattle.std.proofs.lemmas.List.Sums.{sum_by_from}
use Rattle.rtlil_lex.specs.Bytes.{NoneOrMore, is_blank}
use Rattle.circuit_types.specs.declared.tree.Module.{Module}
use Rattle.circuit_types.specs.declared.tree.Item.{Item}
use Rattle.circuit_types.specs.declared.tree.Item.TheVariants as item
use Rattle.circuit_types.specs.declared.tree.Parameter.{Parameter}
use Rattle.circuit_types.specs.declared.tree.Cell.{Cell}
use Rattle.circuit_types.specs.declared.tree.PortConnect.{PortConnect}
use Rattle.rtlil_tree.specs.declared.keyword.Keyword.TheVariants as word
use Rattle.rtlil_tree.specs.Lexemes.{id}
use Rattle.rtlil_tree.specs.Statements.{Statement, attribute, begins, parameter, wire, cell, connect, cell_parameter, port_connect, ends}
use Rattle.rtlil_tree.specs.Text.{AreInside, AreOfItem, AreOfItems, AreOfModule, AreOfModules}
use Rattle.rtlil_print.specs.Printable.{IsPrintableCellParameter, IsPrintablePortConnect, IsPrintableCell, IsPrintableItem, IsPrintableModule}
use Rattle.rtlil_print.specs.Printed.{module_indent, item_indent, inside_indent, attribute_lines, parameter_line, port_connect_line, inside_lines, cell_line, cell_lines, wire_line, item_lines, module_line, module_lines, end_line}
use Rattle.rtlil_print.specs.PrintedLines.{parameter_at, parameters_at, port_connect_at, port_connects_at, wire_at, cell_at, item_at, item_height, items_at, module_at, module_height, modules_at}
use Rattle.rtlil_print.proofs.Printing.{AreLinesOf, no_lines, more_lines}
use Rattle.rtlil_print.proofs.PrintedStatements.{lexeme_line, attributes_written, parameter_written, end_written}
use Rattle.rtlil_print.proofs.PrintedSignals.{connect_written, port_connect_written, cell_parameter_written}
use Rattle.rtlil_print.proofs.PrintedWires.{wire_written}

-- ---- statements

abbrev inside_statements : List Parameter → List PortConnect → List Statement
inside_statements ps cs = map cell_parameter ps ++ map port_connect cs

abbrev item_statements : Item → List Statement
item_statements (item.Parameter p) = parameter p ∷ []
item_statements (item.Wire w) = map attribute w.attributes ++ wire w ∷ []
item_statements (item.Cell c) = map attribute c.attributes ++ cell c ∷ (inside_statements c.parameters c.connects ++ ends ∷ [])
item_statements (item.Connect c) = connect c ∷ []

abbrev items_statements : List Item → List Statement
items_statements [] = []
items_statements (i ∷ is) = item_statements i ++ items_statements is

abbrev module_statements : Module → List Statement
module_statements m = map attribute m.attributes ++ begins m ∷ (items_statements m.items ++ ends ∷ [])

abbrev pub modules_statements : List Module → List Statement
modules_statements [] = []
modules_statements (m ∷ ms) = module_statements m ++ modules_statements ms

are_inside : (ps : List Parameter) (cs : List PortConnect) → AreInside ps cs (inside_statements ps cs)
are_inside [] [] = (refl, refl)
are_inside [] (c ∷ cs) = (cs, refl, are_inside [] cs)
are_inside (p ∷ ps) cs = (ps, refl, are_inside ps cs)

are_of_item : (i : Item) → AreOfItem i (item_statements i)
are_of_item (item.Parameter p) = refl
are_of_item (item.Wire w) = refl
are_of_item (item.Cell c) = (inside_statements c.parameters c.connects, refl, are_inside c.parameters c.connects)
are_of_item (item.Connect c) = refl

are_of_items : (is : List Item) → AreOfItems is (items_statements is)
are_of_items [] = refl
are_of_items (i ∷ is) = (item_statements i, items_statements is, refl, are_of_item i, are_of_items is)

are_of_module : (m : Module) → AreOfModule m (module_statements m)
are_of_module m = (items_statements m.items, refl, are_of_items m.items)

pub are_of_modules : (ms : List Module) → AreOfModules ms (modules_statements ms)
are_of_modules [] = ([], refl)
are_of_modules (m ∷ ms) = ([], module_statements m, modules_statements ms, refl, ([], refl), are_of_module m, are_of_modules ms)

-- ---- how many they are

parameters_length : (n : ℕ) (ps : List Parameter) → length (map cell_parameter (parameters_at n ps)) ≡ length ps
parameters_length n [] = refl
parameters_length n (p ∷ ps) = omega (arith, parameters_length (n + 1) ps)

connects_length : (n : ℕ) (cs : List PortConnect) → length (map port_connect (port_connects_at n cs)) ≡ length cs
connects_length n [] = refl
connects_length n (c ∷ cs) = omega (arith, connects_length (n + 1) cs)

inside_length : (n k : ℕ) (ps : List Parameter) (cs : List PortConnect) → length (inside_statements (parameters_at n ps) (port_connects_at k cs)) ≡ length ps + length cs
inside_length n k ps cs =
    length-append (map cell_parameter (parameters_at n ps)) (map port_connect (port_connects_at k cs))
    ∙ ap (λ l. l + length (map port_connect (port_connects_at k cs))) (parameters_length n ps)
    ∙ ap (λ l. length ps + l) (connects_length k cs)

-- attributes, a first line, what is inside, and an end
framed_length : (notes : List Statement) (s : Statement) (inside : List Statement) (a b : ℕ) → length notes ≡ a → length inside ≡ b → length (notes ++ s ∷ (inside ++ ends ∷ [])) ≡ a + 1 + b + 1
framed_length notes s inside a b e f = omega (arith, e, f, length-append notes (s ∷ (inside ++ ends ∷ [])), length-append inside (ends ∷ []))

item_length : (n : ℕ) (i : Item) → length (item_statements (item_at n i)) ≡ item_height i
item_length n (item.Parameter p) = refl
item_length n (item.Wire w) = length-append (map attribute w.attributes) (wire (wire_at n w) ∷ []) ∙ ap (λ l. l + 1) (length-map w.attributes attribute)
item_length n (item.Cell c) =
    let first = n + length c.attributes in
    framed_length (map attribute c.attributes) (cell (cell_at n c)) (inside_statements (parameters_at (first + 1) c.parameters) (port_connects_at (first + 1 + length c.parameters) c.connects))
    (length c.attributes) (length c.parameters + length c.connects) (length-map c.attributes attribute) (inside_length (first + 1) (first + 1 + length c.parameters) c.parameters c.connects)
    ∙ omega arith
item_length n (item.Connect c) = refl

items_length : (n : ℕ) (is : List Item) → length (items_statements (items_at n is)) ≡ sum_by item_height is
items_length n [] = refl
items_length n (i ∷ is) =
    length-append (item_statements (item_at n i)) (items_statements (items_at (n + item_height i) is))
    ∙ ap (λ l. l + length (items_statements (items_at (n + item_height i) is))) (item_length n i)
    ∙ ap (λ l. item_height i + l) (items_length (n + item_height i) is)
    ∙ sym (sum_by_from item_height (0 + item_height i) is ∙ omega arith)

module_length : (n : ℕ) (m : Module) → length (module_statements (module_at n m)) ≡ module_height m
module_length n m =
    framed_length (map attribute m.attributes) (begins (module_at n m)) (items_statements (items_at (n + length m.attributes + 1) m.items))
    (length m.attributes) (sum_by item_height m.items) (length-map m.attributes attribute) (items_length (n + length m.attributes + 1) m.items)

-- ---- lines

item_blank : NoneOrMore is_blank item_indent
item_blank = (refl, (refl, tt))

inside_blank : NoneOrMore is_blank inside_indent
inside_blank = (refl, (refl, (refl, (refl, tt))))

-- one text behind the other, where the number of the second is known
behind : (number k : ℕ) (ss us : List Statement) (text more : List ℕ) → number + length ss ≡ k → AreLinesOf number ss text → AreLinesOf k us more → AreLinesOf number (ss ++ us) (text ++ more)
behind number k ss us text more e h g = more_lines number ss us text more h (subst (λ m. AreLinesOf m us more) (sym e) g)

parameters_written : (number : ℕ) (indent : List ℕ) (ps : List Parameter) → NoneOrMore is_blank indent → AllByRecursion IsPrintableCellParameter ps → AreLinesOf number (map cell_parameter (parameters_at number ps)) (flat_map (parameter_line indent) ps)
parameters_written number indent [] blank h = no_lines number
parameters_written number indent (p ∷ ps) blank h =
    more_lines number (cell_parameter (parameter_at number p) ∷ []) (map cell_parameter (parameters_at (number + 1) ps)) (parameter_line indent p) (flat_map (parameter_line indent) ps)
    (cell_parameter_written number indent p blank h.0)
    (parameters_written (number + 1) indent ps blank h.1)

connects_written : (number : ℕ) (indent : List ℕ) (cs : List PortConnect) → NoneOrMore is_blank indent → AllByRecursion IsPrintablePortConnect cs → AreLinesOf number (map port_connect (port_connects_at number cs)) (flat_map (port_connect_line indent) cs)
connects_written number indent [] blank h = no_lines number
connects_written number indent (c ∷ cs) blank h =
    more_lines number (port_connect (port_connect_at number c) ∷ []) (map port_connect (port_connects_at (number + 1) cs)) (port_connect_line indent c) (flat_map (port_connect_line indent) cs)
    (port_connect_written number indent c blank h.0)
    (connects_written (number + 1) indent cs blank h.1)

inside_written : (number : ℕ) (c : Cell) → IsPrintableCell c → AreLinesOf number (inside_statements (parameters_at number c.parameters) (port_connects_at (number + length c.parameters) c.connects)) (inside_lines c)
inside_written number c h =
    let k = number + length c.parameters in
    behind number k (map cell_parameter (parameters_at number c.parameters)) (map port_connect (port_connects_at k c.connects)) (flat_map (parameter_line inside_indent) c.parameters) (flat_map (port_connect_line inside_indent) c.connects)
    (ap (λ l. number + l) (parameters_length number c.parameters))
    (parameters_written number inside_indent c.parameters inside_blank h.parameters)
    (connects_written k inside_indent c.connects inside_blank h.connects)

-- attributes, a first line, what is inside, and an end
framed : (number first : ℕ) (notes : List Statement) (s : Statement) (inside : List Statement) (indent above line text : List ℕ) → number + length notes ≡ first → NoneOrMore is_blank indent
    → AreLinesOf number notes above → AreLinesOf first (s ∷ []) line → AreLinesOf (first + 1) inside text
    → AreLinesOf number (notes ++ s ∷ (inside ++ ends ∷ [])) (above ++ (line ++ (text ++ end_line indent)))
framed number first notes s inside indent above line text e blank h one g =
    behind number first notes (s ∷ (inside ++ ends ∷ [])) above (line ++ (text ++ end_line indent)) e h
    (more_lines first (s ∷ []) (inside ++ ends ∷ []) line (text ++ end_line indent) one
    (more_lines (first + 1) inside (ends ∷ []) text (end_line indent) g (end_written (first + 1 + length inside) indent blank)))

cell_written : (number : ℕ) (c : Cell) → IsPrintableCell c → AreLinesOf number (item_statements (item.Cell (cell_at number c))) (attribute_lines item_indent c.attributes ++ cell_lines c)
cell_written number c h =
    let first = number + length c.attributes in
    framed number first (map attribute c.attributes) (cell (cell_at number c)) (inside_statements (parameters_at (first + 1) c.parameters) (port_connects_at (first + 1 + length c.parameters) c.connects))
    item_indent (attribute_lines item_indent c.attributes) (cell_line c) (inside_lines c)
    (ap (λ l. number + l) (length-map c.attributes attribute)) item_blank
    (attributes_written number item_indent c.attributes item_blank h.attributes)
    (lexeme_line first (cell (cell_at number c)) item_indent word.Cell (id c.kind ∷ id c.name ∷ []) item_blank (h.kind, (h.name, tt)) (refl, refl))
    (inside_written (first + 1) c h)

item_written : (number : ℕ) (i : Item) → IsPrintableItem i → AreLinesOf number (item_statements (item_at number i)) (item_lines i)
item_written number (item.Parameter p) h = parameter_written number item_indent p item_blank h
item_written number (item.Wire w) h =
    let first = number + length w.attributes in
    behind number first (map attribute w.attributes) (wire (wire_at number w) ∷ []) (attribute_lines item_indent w.attributes) (wire_line w)
    (ap (λ l. number + l) (length-map w.attributes attribute))
    (attributes_written number item_indent w.attributes item_blank h.attributes)
    (wire_written number first w refl h)
item_written number (item.Cell c) h = cell_written number c h
item_written number (item.Connect c) h = connect_written number c h

items_written : (lines : Item → List ℕ) → ((number : ℕ) (i : Item) → IsPrintableItem i → AreLinesOf number (item_statements (item_at number i)) (lines i))
    → (number : ℕ) (is : List Item) → AllByRecursion IsPrintableItem is → AreLinesOf number (items_statements (items_at number is)) (flat_map lines is)
items_written lines each number [] h = no_lines number
items_written lines each number (i ∷ is) h =
    let next = number + item_height i in
    behind number next (item_statements (item_at number i)) (items_statements (items_at next is)) (lines i) (flat_map lines is)
    (ap (λ l. number + l) (item_length number i))
    (each number i h.0)
    (items_written lines each next is h.1)

module_written : (number : ℕ) (m : Module) → IsPrintableModule m → AreLinesOf number (module_statements (module_at number m)) (module_lines m)
module_written number m h =
    let first = number + length m.attributes in
    framed number first (map attribute m.attributes) (begins (module_at number m)) (items_statements (items_at (first + 1) m.items))
    module_indent (attribute_lines module_indent m.attributes) (module_line m.name) (flat_map item_lines m.items)
    (ap (λ l. number + l) (length-map m.attributes attribute)) tt
    (attributes_written number module_indent m.attributes tt h.attributes)
    (lexeme_line first (begins (module_at number m)) module_indent word.Module (id m.name ∷ []) tt (h.name, tt) (refl, refl))
    (items_written item_lines item_written (first + 1) m.items h.items)

modules_by : (lines : Module → List ℕ) → ((number : ℕ) (m : Module) → IsPrintableModule m → AreLinesOf number (module_statements (module_at number m)) (lines m))
    → (number : ℕ) (ms : List Module) → AllByRecursion IsPrintableModule ms → AreLinesOf number (modules_statements (modules_at number ms)) (flat_map lines ms)
modules_by lines each number [] h = no_lines number
modules_by lines each number (m ∷ ms) h =
    let next = number + module_height m in
    behind number next (module_statements (module_at number m)) (modules_statements (modules_at next ms)) (lines m) (flat_map lines ms)
    (ap (λ l. number + l) (module_length number m))
    (each number m h.0)
    (modules_by lines each next ms h.1)

pub modules_written : (number : ℕ) (ms : List Module) → AllByRecursion IsPrintableModule ms → AreLinesOf number (modules_statements (modules_at number ms)) (flat_map module_lines ms)
modules_written number ms h = modules_by module_lines module_written number ms h
