-- The tree that lines are a text of is what the reader answers.
use Rattle.std.proofs.Common.{◌≡◌, ℕ, ℤ, true, false, List, [], ◌∷◌, ◌++◌, map, refl, ap, ◌∙◌, sym, subst, ⊎_elim, Option, Some, None, option_map, Ok, append_assoc}
use Rattle.std.specs.Prelude.{IsTrue}
use Rattle.std.proofs.lemmas.List.{append-nil, map-append}
use Rattle.std.proofs.lemmas.Grind.{flat_map-append}
use Rattle.std.proofs.lemmas.Bool.{cases_Bool, cond-false}
use Rattle.circuit_types.specs.declared.tree.Tree.{Tree}
use Rattle.circuit_types.specs.declared.tree.Module.{Module}
use Rattle.circuit_types.specs.declared.tree.Attribute.{Attribute}
use Rattle.circuit_types.specs.declared.tree.Parameter.{Parameter}
use Rattle.circuit_types.specs.declared.tree.Item.{Item}
use Rattle.circuit_types.specs.declared.tree.Item.TheVariants as item
use Rattle.circuit_types.specs.declared.tree.Wire.{Wire}
use Rattle.circuit_types.specs.declared.tree.Cell.{Cell}
use Rattle.circuit_types.specs.declared.tree.Connect.{Connect}
use Rattle.circuit_types.specs.declared.tree.PortConnect.{PortConnect}
use Rattle.rtlil_lex.specs.declared.token.TokenKind.{TokenKind}
use Rattle.rtlil_lex.specs.declared.token.TokenKind.TheVariants as kind
use Rattle.rtlil_tree.specs.declared.keyword.Keyword.{Keyword}
use Rattle.rtlil_tree.specs.declared.keyword.Keyword.TheVariants.{Memory, Process}
use Rattle.rtlil_tree.specs.Lexemes.{Lexeme, key, Spelled}
use Rattle.rtlil_tree.specs.Lines.{Line}
use Rattle.rtlil_tree.specs.Said.{◌>>=◌, said, keyword_of, lexemes_of}
use Rattle.rtlil_tree.specs.Statements.{Statement, autoidx, attribute, begins, parameter, wire, cell, connect, cell_parameter, port_connect, ends}
use Rattle.rtlil_tree.specs.Forms as form
use Rattle.rtlil_tree.specs.Forms.{FileForm, ModuleForm, CellForm, file_form_of, module_form_of, cell_form_of}
use Rattle.rtlil_tree.specs.Names.{is_among, are_distinct, wire_name, cell_name, wire_names, cell_names, port_names, module_names, HasPortsOnce, HasItemsOnce, HasNamesOnce}
use Rattle.rtlil_tree.specs.Machine.{State, file, inside, within, start, bad_form, unsupported, with_items, module_begun, cell_begun, wire_made, connect_made, file_step, wire_step, module_step, cell_step, step, is_foreign, is_foreign_word, is_foreign_token, run}
use Rattle.rtlil_tree.specs.Text.{AreInside, AreOfItem, AreOfItems, AreOfModule, AreAutoidx, AreOfModules, IsWritten, AreWritten, IsTreeText}
use Rattle.rtlil_tree.specs.Placed.{IsOnLine, file_form, module_form, cell_form, wire_form}
use Rattle.rtlil_tree.proofs.Running.{run_end, run_ok, unless_not}
use Rattle.rtlil_tree.proofs.WordLaws.{lexemes_if_said, is_file_statement, is_module_statement, is_cell_statement}
use Rattle.rtlil_tree.proofs.Distinct.{distinct_before, all_at, tree_of}
use Rattle.rtlil_tree.proofs.Sounding.{cell_with, bare_cell}

-- ---- going over statements

-- Over lines that are written as the statements, the reader goes from the one state to the other.
pub record Goes (s u : State) (ss : List Statement) : Type 0 where
  pub over : (e : ℕ) (rest : List Statement) (lines : List Line) → AreWritten (ss ++ rest) lines → (left : List Line) × AreWritten rest left × (run e s lines ≡ run e u left)

pub goes_none : (s : State) → Goes s s []
goes_none s = record { over = λ e rest lines w. (lines, w, refl) }

pub goes_on : (s u v : State) (xs ys : List Statement) → Goes s u xs → Goes u v ys → Goes s v (xs ++ ys)
goes_on s u v xs ys h g = record { over = λ e rest lines w. go e rest lines w }
  where
    go : (e : ℕ) (rest : List Statement) (lines : List Line) → AreWritten ((xs ++ ys) ++ rest) lines → (left : List Line) × AreWritten rest left × (run e s lines ≡ run e v left)
    go e rest lines w =
        let x = h.over e (ys ++ rest) lines (subst (λ (l : List Statement). AreWritten l lines) (append_assoc xs ys rest) w) in
        let y = g.over e rest x.0 x.1 in
        (y.0, y.1, x.2 ∙ y.2)

goes_one : (s u : State) (st : Statement) → ((line : Line) → IsWritten st line → step s line ≡ Ok u) → Goes s u (st ∷ [])
goes_one s u st h = record { over = λ e rest lines w. go e rest lines w }
  where
    go : (e : ℕ) (rest : List Statement) (lines : List Line) → AreWritten (st ∷ rest) lines → (left : List Line) × AreWritten rest left × (run e s lines ≡ run e u left)
    go e rest [] w = absurd w
    go e rest (line ∷ lines) w = (lines, w.1, run_ok e s u line lines (h line w.0))

goes_to : (s u v : State) (ss : List Statement) → u ≡ v → Goes s u ss → Goes s v ss
goes_to s u v ss e h = subst (λ (x : State). Goes s x ss) e h

goes_as : (s u : State) (xs ys : List Statement) → xs ≡ ys → Goes s u ys → Goes s u xs
goes_as s u xs ys e h = subst (Goes s u) (sym e) h

-- ---- the forms of written lines

file_reads : (st : Statement) (f : FileForm) (line : Line) → file_form st ≡ Some f → IsWritten st line → IsOnLine st line.number × ((lexemes_of line.tokens >>= file_form_of) ≡ Some f)
file_reads st f line is w =
    let k = (is_file_statement st f line.number w.lexemes is).0 w.form in
    (k.0, ap (λ (o : Option (List Lexeme)). o >>= file_form_of) (lexemes_if_said w.lexemes line.tokens w.said) ∙ k.1)

module_reads : (st : Statement) (f : ModuleForm) (line : Line) → module_form st ≡ Some f → IsWritten st line → IsOnLine st line.number × ((lexemes_of line.tokens >>= module_form_of line.number) ≡ Some f)
module_reads st f line is w =
    let k = (is_module_statement st f line.number w.lexemes is).0 w.form in
    (k.0, ap (λ (o : Option (List Lexeme)). o >>= module_form_of line.number) (lexemes_if_said w.lexemes line.tokens w.said) ∙ k.1)

cell_reads : (st : Statement) (f : CellForm) (line : Line) → cell_form st ≡ Some f → IsWritten st line → IsOnLine st line.number × ((lexemes_of line.tokens >>= cell_form_of line.number) ≡ Some f)
cell_reads st f line is w =
    let k = (is_cell_statement st f line.number w.lexemes is).0 w.form in
    (k.0, ap (λ (o : Option (List Lexeme)). o >>= cell_form_of line.number) (lexemes_if_said w.lexemes line.tokens w.said) ∙ k.1)

-- ---- a statement that begins with `memory` or `process` has no form in a module

foreign_word : (o : Option Keyword) → is_foreign_word o ≡ true → (w : Keyword) × (o ≡ Some w) × (is_foreign_word (Some w) ≡ true)
foreign_word (Some w) h = (w, refl, h)
foreign_word None h = absurd cc

pub foreign_said : (k : TokenKind) (text : List ℕ) → is_foreign_token k text ≡ true → (w : Keyword) × (said k text ≡ Some (key w)) × (is_foreign_word (Some w) ≡ true)
unfolding said
foreign_said kind.Word text h = let f = foreign_word (keyword_of text) h in (f.0, ap (option_map key) f.1, f.2)
foreign_said kind.Id text h = absurd cc
foreign_said k text h = absurd cc

foreign_form : (w : Keyword) (line : ℕ) (xs : List Lexeme) → is_foreign_word (Some w) ≡ true → module_form_of line (key w ∷ xs) ≡ None
foreign_form Memory line xs h = refl
foreign_form Process line xs h = refl
foreign_form w line xs h = absurd cc

foreign_rest : (w : Keyword) (line : ℕ) (o : Option (List Lexeme)) → is_foreign_word (Some w) ≡ true → ((o >>= λ xs. Some (key w ∷ xs)) >>= module_form_of line) ≡ None
foreign_rest w line None h = refl
foreign_rest w line (Some xs) h = foreign_form w line xs h

foreign_none : (line : ℕ) (ts : List Spelled) → is_foreign ts ≡ true → (lexemes_of ts >>= module_form_of line) ≡ None
unfolding lexemes_of
foreign_none line [] h = absurd cc
foreign_none line (t ∷ ts) h =
    let f = foreign_said t.kind t.text h in
    ap (λ (o : Option Lexeme). (o >>= λ x. lexemes_of ts >>= λ xs. Some (x ∷ xs)) >>= module_form_of line) f.1 ∙ foreign_rest f.0 line (lexemes_of ts) f.2

pub not_foreign : (line : ℕ) (ts : List Spelled) (f : ModuleForm) → (lexemes_of ts >>= module_form_of line) ≡ Some f → is_foreign ts ≡ false
not_foreign line ts f h =
    ⊎_elim
    (λ yes_foreign. let none = foreign_none line ts yes_foreign in absurd cc)
    (λ other. other)
    (cases_Bool (is_foreign ts))

pub module_steps : (ms : List Module) (m : Module) (held : List Attribute) (line : Line) (f : ModuleForm) → (lexemes_of line.tokens >>= module_form_of line.number) ≡ Some f → step (inside ms m held) line ≡ module_step ms m held line.number (Some f)
module_steps ms m held line f h =
    cond-false (is_foreign line.tokens) (unsupported line.number) _ (not_foreign line.number line.tokens f h)
    ∙ ap (module_step ms m held line.number) h

-- ---- one statement between modules

autoidx_goes : (ms : List Module) (z : ℤ) → Goes (file ms []) (file ms []) (autoidx z ∷ [])
autoidx_goes ms z = goes_one _ _ (autoidx z) (λ line w. ap (file_step ms [] line.number) (file_reads (autoidx z) (form.autoidx z) line refl w).1)

attribute_goes : (ms : List Module) (held : List Attribute) (a : Attribute) → Goes (file ms held) (file ms (held ++ a ∷ [])) (attribute a ∷ [])
attribute_goes ms held a = goes_one _ _ (attribute a) (λ line w. ap (file_step ms held line.number) (file_reads (attribute a) (form.attribute a) line refl w).1)

pub begins_goes : (ms : List Module) (m : Module) → is_among m.name (module_names ms) ≡ false → Goes (file ms m.attributes) (inside ms (module_begun m.line m.name m.attributes) []) (begins m ∷ [])
begins_goes ms m new = goes_one _ _ (begins m) go
  where
    go : (line : Line) → IsWritten (begins m) line → step (file ms m.attributes) line ≡ Ok (inside ms (module_begun m.line m.name m.attributes) [])
    go line w =
        let k = file_reads (begins m) (form.begins m.name) line refl w in
        ap (file_step ms m.attributes line.number) k.1
        ∙ unless_not (is_among m.name (module_names ms)) line.number (inside ms (module_begun line.number m.name m.attributes) []) new
        ∙ ap (λ n. Ok (inside ms (module_begun n m.name m.attributes) [])) (sym k.0)

-- ---- one statement in a module

inner_attribute_goes : (ms : List Module) (m : Module) (held : List Attribute) (a : Attribute) → Goes (inside ms m held) (inside ms m (held ++ a ∷ [])) (attribute a ∷ [])
inner_attribute_goes ms m held a = goes_one _ _ (attribute a) (λ line w. module_steps ms m held line (form.attribute_in a) (module_reads (attribute a) (form.attribute_in a) line refl w).1)

parameter_goes : (ms : List Module) (m : Module) (p : Parameter) → Goes (inside ms m []) (inside ms (with_items m (m.items ++ item.Parameter p ∷ [])) []) (parameter p ∷ [])
parameter_goes ms m p = goes_one _ _ (parameter p) (λ line w. module_steps ms m [] line (form.parameter p) (module_reads (parameter p) (form.parameter p) line refl w).1)

connect_goes : (ms : List Module) (m : Module) (c : Connect) → Goes (inside ms m []) (inside ms (with_items m (m.items ++ item.Connect c ∷ [])) []) (connect c ∷ [])
connect_goes ms m c = goes_one _ _ (connect c) (λ line w. module_steps ms m [] line (form.connect c) (module_reads (connect c) (form.connect c) line refl w).1)

pub module_end_goes : (ms : List Module) (m : Module) → Goes (inside ms m []) (file (ms ++ m ∷ []) []) (ends ∷ [])
module_end_goes ms m = goes_one _ _ ends (λ line w. module_steps ms m [] line form.ends (module_reads ends form.ends line refl w).1)

pub wire_steps : (ms : List Module) (m : Module) (v : Wire) (line : Line) → is_among v.name (wire_names m.items) ≡ false → IsWritten (wire v) line → step (inside ms m v.attributes) line ≡ Ok (inside ms (with_items m (m.items ++ item.Wire v ∷ [])) [])
wire_steps ms m v line new w =
    let k = module_reads (wire v) (form.wire (wire_form v)) line refl w in
    module_steps ms m v.attributes line (form.wire (wire_form v)) k.1
    ∙ cond-false (is_among v.name (wire_names m.items)) (bad_form line.number) (wire_step ms m v.attributes line.number (wire_form v)) new
    ∙ ap (λ n. Ok (inside ms (with_items m (m.items ++ item.Wire (wire_made n v.attributes (wire_form v)) ∷ [])) [])) (sym k.0)

pub wire_goes : (ms : List Module) (m : Module) (v : Wire) → is_among v.name (wire_names m.items) ≡ false → Goes (inside ms m v.attributes) (inside ms (with_items m (m.items ++ item.Wire v ∷ [])) []) (wire v ∷ [])
wire_goes ms m v new = goes_one _ _ (wire v) (λ line w. wire_steps ms m v line new w)

cell_goes : (ms : List Module) (m : Module) (c : Cell) → is_among c.name (cell_names m.items) ≡ false → Goes (inside ms m c.attributes) (within ms m (cell_begun c.line c.kind c.name c.attributes)) (cell c ∷ [])
cell_goes ms m c new = goes_one _ _ (cell c) go
  where
    go : (line : Line) → IsWritten (cell c) line → step (inside ms m c.attributes) line ≡ Ok (within ms m (cell_begun c.line c.kind c.name c.attributes))
    go line w =
        let k = module_reads (cell c) (form.cell_begins c.kind c.name) line refl w in
        module_steps ms m c.attributes line (form.cell_begins c.kind c.name) k.1
        ∙ unless_not (is_among c.name (cell_names m.items)) line.number (within ms m (cell_begun line.number c.kind c.name c.attributes)) new
        ∙ ap (λ n. Ok (within ms m (cell_begun n c.kind c.name c.attributes))) (sym k.0)

-- ---- one statement in a cell

cell_parameter_goes : (ms : List Module) (m : Module) (c : Cell) (p : Parameter) → Goes (within ms m c) (within ms m (record c { parameters = c.parameters ++ p ∷ [] })) (cell_parameter p ∷ [])
cell_parameter_goes ms m c p = goes_one _ _ (cell_parameter p) (λ line w. ap (cell_step ms m c line.number) (cell_reads (cell_parameter p) (form.cell_parameter p) line refl w).1)

port_goes : (ms : List Module) (m : Module) (c : Cell) (d : PortConnect) → is_among d.port (port_names c.connects) ≡ false → Goes (within ms m c) (within ms m (record c { connects = c.connects ++ d ∷ [] })) (port_connect d ∷ [])
port_goes ms m c d new = goes_one _ _ (port_connect d) go
  where
    go : (line : Line) → IsWritten (port_connect d) line → step (within ms m c) line ≡ Ok (within ms m (record c { connects = c.connects ++ d ∷ [] }))
    go line w =
        let k = cell_reads (port_connect d) (form.port_connect d.port d.signal) line refl w in
        ap (cell_step ms m c line.number) k.1
        ∙ unless_not (is_among d.port (port_names c.connects)) line.number (within ms m (record c { connects = c.connects ++ connect_made line.number d.port d.signal ∷ [] })) new
        ∙ ap (λ n. Ok (within ms m (record c { connects = c.connects ++ connect_made n d.port d.signal ∷ [] }))) (sym k.0)

pub cell_end_goes : (ms : List Module) (m : Module) (c : Cell) → Goes (within ms m c) (inside ms (with_items m (m.items ++ item.Cell c ∷ [])) []) (ends ∷ [])
cell_end_goes ms m c = goes_one _ _ ends (λ line w. ap (cell_step ms m c line.number) (cell_reads ends form.cell_ends line refl w).1)

-- ---- attributes

attributes_go : (ms : List Module) (held more : List Attribute) → Goes (file ms held) (file ms (held ++ more)) (map attribute more)
attributes_go ms held [] = goes_to _ _ _ [] (ap (file ms) (sym (append-nil held))) (goes_none (file ms held))
attributes_go ms held (a ∷ more) =
    goes_to _ _ _ _ (ap (file ms) (append_assoc held (a ∷ []) more))
    (goes_on _ _ _ (attribute a ∷ []) (map attribute more) (attribute_goes ms held a) (attributes_go ms (held ++ a ∷ []) more))

inner_attributes_go : (ms : List Module) (m : Module) (held more : List Attribute) → Goes (inside ms m held) (inside ms m (held ++ more)) (map attribute more)
inner_attributes_go ms m held [] = goes_to _ _ _ [] (ap (inside ms m) (sym (append-nil held))) (goes_none (inside ms m held))
inner_attributes_go ms m held (a ∷ more) =
    goes_to _ _ _ _ (ap (inside ms m) (append_assoc held (a ∷ []) more))
    (goes_on _ _ _ (attribute a ∷ []) (map attribute more) (inner_attribute_goes ms m held a) (inner_attributes_go ms m (held ++ a ∷ []) more))

-- ---- a cell's inside

port_new : (c : Cell) (d : PortConnect) (cs rest : List PortConnect) → cs ≡ d ∷ rest → IsTrue (are_distinct (port_names (c.connects ++ cs))) → is_among d.port (port_names c.connects) ≡ false
port_new c d cs rest is h =
    distinct_before (port_names c.connects) d.port (port_names rest)
    (subst (λ l. IsTrue (are_distinct l)) (ap (λ (l : List PortConnect). port_names (c.connects ++ l)) is ∙ map-append (λ (x : PortConnect). x.port) c.connects (d ∷ rest)) h)

cell_push : (c : Cell) (p : Parameter) (ps rest : List Parameter) (cs : List PortConnect) → ps ≡ p ∷ rest → cell_with (record c { parameters = c.parameters ++ p ∷ [] }) rest cs ≡ cell_with c ps cs
cell_push c p ps rest cs is = ap (λ (l : List Parameter). record c { parameters = l; connects = c.connects ++ cs }) (append_assoc c.parameters (p ∷ []) rest ∙ ap (λ (l : List Parameter). c.parameters ++ l) (sym is))

connect_push : (c : Cell) (d : PortConnect) (ps : List Parameter) (cs rest : List PortConnect) → cs ≡ d ∷ rest → cell_with (record c { connects = c.connects ++ d ∷ [] }) ps rest ≡ cell_with c ps cs
connect_push c d ps cs rest is = ap (λ (l : List PortConnect). record c { parameters = c.parameters ++ ps; connects = l }) (append_assoc c.connects (d ∷ []) rest ∙ ap (λ (l : List PortConnect). c.connects ++ l) (sym is))

ports_pushed : (c : Cell) (d : PortConnect) (cs rest : List PortConnect) → cs ≡ d ∷ rest → IsTrue (are_distinct (port_names (c.connects ++ cs))) → IsTrue (are_distinct (port_names ((c.connects ++ d ∷ []) ++ rest)))
ports_pushed c d cs rest is h = subst (λ (l : List PortConnect). IsTrue (are_distinct (port_names l))) (ap (λ (l : List PortConnect). c.connects ++ l) is ∙ sym (append_assoc c.connects (d ∷ []) rest)) h

cell_inside_goes : (ms : List Module) (m : Module) (c : Cell) (ps : List Parameter) (cs : List PortConnect) (ss : List Statement) → AreInside ps cs ss → IsTrue (are_distinct (port_names (c.connects ++ cs))) → Goes (within ms m c) (within ms m (cell_with c ps cs)) ss
cell_inside_goes ms m c ps cs [] h once = goes_to _ _ _ [] (ap (within ms m) (bare_cell c ps cs h.0 h.1)) (goes_none (within ms m c))
cell_inside_goes ms m c ps cs (cell_parameter p ∷ ss) h once =
    goes_to _ _ _ _ (ap (within ms m) (cell_push c p ps h.0 cs h.1))
    (goes_on _ _ _ (cell_parameter p ∷ []) ss (cell_parameter_goes ms m c p) (cell_inside_goes ms m (record c { parameters = c.parameters ++ p ∷ [] }) h.0 cs ss h.2 once))
cell_inside_goes ms m c ps cs (port_connect d ∷ ss) h once =
    goes_to _ _ _ _ (ap (within ms m) (connect_push c d ps cs h.0 h.1))
    (goes_on _ _ _ (port_connect d ∷ []) ss (port_goes ms m c d (port_new c d cs h.0 h.1 once)) (cell_inside_goes ms m (record c { connects = c.connects ++ d ∷ [] }) ps h.0 ss h.2 (ports_pushed c d cs h.0 h.1 once)))
cell_inside_goes ms m c ps cs (s ∷ ss) h once = absurd h

-- ---- items

wire_new : (items : List Item) (v : Wire) (more : List Item) → HasItemsOnce (items ++ item.Wire v ∷ more) → is_among v.name (wire_names items) ≡ false
wire_new items v more h = distinct_before (wire_names items) v.name (wire_names more) (subst (λ l. IsTrue (are_distinct l)) (flat_map-append wire_name items (item.Wire v ∷ more)) h.wires)

cell_new : (items : List Item) (c : Cell) (more : List Item) → HasItemsOnce (items ++ item.Cell c ∷ more) → is_among c.name (cell_names items) ≡ false
cell_new items c more h = distinct_before (cell_names items) c.name (cell_names more) (subst (λ l. IsTrue (are_distinct l)) (flat_map-append cell_name items (item.Cell c ∷ more)) h.cells)

whole_cell_goes : (ms : List Module) (m : Module) (c : Cell) (inner : List Statement) → AreInside c.parameters c.connects inner → is_among c.name (cell_names m.items) ≡ false → IsTrue (are_distinct (port_names c.connects))
    → Goes (inside ms m []) (inside ms (with_items m (m.items ++ item.Cell c ∷ [])) []) (map attribute c.attributes ++ cell c ∷ (inner ++ ends ∷ []))
whole_cell_goes ms m c inner h new ports =
    goes_on _ _ _ (map attribute c.attributes) (cell c ∷ (inner ++ ends ∷ [])) (inner_attributes_go ms m [] c.attributes)
    (goes_on _ _ _ (cell c ∷ []) (inner ++ ends ∷ []) (cell_goes ms m c new)
    (goes_on _ _ _ inner (ends ∷ []) (cell_inside_goes ms m (cell_begun c.line c.kind c.name c.attributes) c.parameters c.connects inner h ports) (cell_end_goes ms m c)))

item_goes : (ms : List Module) (m : Module) (i : Item) (more : List Item) (ss : List Statement) → AreOfItem i ss → HasItemsOnce (m.items ++ i ∷ more) → Goes (inside ms m []) (inside ms (with_items m (m.items ++ i ∷ [])) []) ss
item_goes ms m (item.Parameter p) more ss h once = goes_as _ _ ss (parameter p ∷ []) h (parameter_goes ms m p)
item_goes ms m (item.Wire v) more ss h once =
    goes_as _ _ ss (map attribute v.attributes ++ wire v ∷ []) h
    (goes_on _ _ _ (map attribute v.attributes) (wire v ∷ []) (inner_attributes_go ms m [] v.attributes) (wire_goes ms m v (wire_new m.items v more once)))
item_goes ms m (item.Cell c) more ss h once =
    goes_as _ _ ss (map attribute c.attributes ++ cell c ∷ (h.0 ++ ends ∷ [])) h.1
    (whole_cell_goes ms m c h.0 h.2 (cell_new m.items c more once) (all_at HasPortsOnce m.items (item.Cell c) more once.ports))
item_goes ms m (item.Connect c) more ss h once = goes_as _ _ ss (connect c ∷ []) h (connect_goes ms m c)

items_go : (ms : List Module) (m : Module) (is : List Item) (ss : List Statement) → AreOfItems is ss → HasItemsOnce (m.items ++ is) → Goes (inside ms m []) (inside ms (with_items m (m.items ++ is)) []) ss
items_go ms m [] ss h once =
    goes_as _ _ ss [] h (goes_to _ _ _ [] (ap (λ (l : List Item). inside ms (with_items m l) []) (sym (append-nil m.items))) (goes_none (inside ms m [])))
items_go ms m (i ∷ is) ss h once =
    goes_as _ _ ss (h.0 ++ h.1) h.2
    (goes_to _ _ _ _ (ap (λ (l : List Item). inside ms (with_items m l) []) (append_assoc m.items (i ∷ []) is))
    (goes_on _ _ _ h.0 h.1 (item_goes ms m i is h.0 h.3 once)
    (items_go ms (with_items m (m.items ++ i ∷ [])) is h.1 h.4 (subst HasItemsOnce (sym (append_assoc m.items (i ∷ []) is)) once))))

-- ---- modules

module_goes : (ms : List Module) (m : Module) (ss : List Statement) → AreOfModule m ss → is_among m.name (module_names ms) ≡ false → HasItemsOnce m.items → Goes (file ms []) (file (ms ++ m ∷ []) []) ss
module_goes ms m ss h new once =
    goes_as _ _ ss (map attribute m.attributes ++ begins m ∷ (h.0 ++ ends ∷ [])) h.1
    (goes_on _ _ _ (map attribute m.attributes) (begins m ∷ (h.0 ++ ends ∷ [])) (attributes_go ms [] m.attributes)
    (goes_on _ _ _ (begins m ∷ []) (h.0 ++ ends ∷ []) (begins_goes ms m new)
    (goes_on _ _ _ h.0 (ends ∷ []) (items_go ms (module_begun m.line m.name m.attributes) m.items h.0 h.2 once) (module_end_goes ms m))))

numbers_go : (ms : List Module) (numbers : List ℤ) → Goes (file ms []) (file ms []) (map autoidx numbers)
numbers_go ms [] = goes_none (file ms [])
numbers_go ms (z ∷ numbers) = goes_on _ _ _ (autoidx z ∷ []) (map autoidx numbers) (autoidx_goes ms z) (numbers_go ms numbers)

all_autoidx_goes : (ms : List Module) (ss : List Statement) → AreAutoidx ss → Goes (file ms []) (file ms []) ss
all_autoidx_goes ms ss h = goes_as _ _ ss (map autoidx h.0) h.1 (numbers_go ms h.0)

module_new : (ms : List Module) (m : Module) (more : List Module) → HasNamesOnce (tree_of (ms ++ m ∷ more)) → is_among m.name (module_names ms) ≡ false
module_new ms m more h = distinct_before (module_names ms) m.name (module_names more) (subst (λ l. IsTrue (are_distinct l)) (map-append (λ (x : Module). x.name) ms (m ∷ more)) h.modules)

modules_go : (ms more : List Module) (ss : List Statement) → AreOfModules more ss → HasNamesOnce (tree_of (ms ++ more)) → Goes (file ms []) (file (ms ++ more) []) ss
modules_go ms [] ss h once = goes_to _ _ _ ss (ap (λ (l : List Module). file l []) (sym (append-nil ms))) (all_autoidx_goes ms ss h)
modules_go ms (m ∷ more) ss h once =
    goes_as _ _ ss (h.0 ++ (h.1 ++ h.2)) h.3
    (goes_to _ _ _ _ (ap (λ (l : List Module). file l []) (append_assoc ms (m ∷ []) more))
    (goes_on _ _ _ h.0 (h.1 ++ h.2) (all_autoidx_goes ms h.0 h.4)
    (goes_on _ _ _ h.1 h.2 (module_goes ms m h.1 h.5 (module_new ms m more once) (all_at (λ (x : Module). HasItemsOnce x.items) ms m more once.items))
    (modules_go (ms ++ m ∷ []) more h.2 h.6 (subst (λ (l : List Module). HasNamesOnce (tree_of l)) (sym (append_assoc ms (m ∷ []) more)) once)))))

-- the reader answers the tree of a text
pub complete : (e : ℕ) (lines : List Line) (t : Tree) → IsTreeText lines t → run e start lines ≡ Ok t
complete e lines t h =
    let x = (modules_go [] t.modules h.statements h.of_tree h.names).over e [] lines (subst (λ (l : List Statement). AreWritten l lines) (sym (append-nil h.statements)) h.written) in
    x.2 ∙ ap (run e (file t.modules [])) x.1 ∙ run_end e (file t.modules [])
