-- What the reader answers for lines is a tree that they are a text of.
use Rattle.std.proofs.Common.{◌≡◌, ℕ, ℤ, Bool, true, false, cond, List, [], ◌∷◌, ◌++◌, map, refl, ap, ◌∙◌, sym, subst, Option, Some, None, Result, Ok, Err, append_assoc}
use Rattle.std.proofs.lemmas.List.{append-nil}
use Rattle.circuit_types.specs.declared.refusal.Refusal.{Refusal}
use Rattle.circuit_types.specs.declared.tree.Tree.{Tree}
use Rattle.circuit_types.specs.declared.tree.Module.{Module}
use Rattle.circuit_types.specs.declared.tree.Attribute.{Attribute}
use Rattle.circuit_types.specs.declared.tree.Parameter.{Parameter}
use Rattle.circuit_types.specs.declared.tree.Item.{Item}
use Rattle.circuit_types.specs.declared.tree.Item.TheVariants as item
use Rattle.circuit_types.specs.declared.tree.Cell.{Cell}
use Rattle.circuit_types.specs.declared.tree.PortConnect.{PortConnect}
use Rattle.rtlil_tree.specs.Lines.{Line}
use Rattle.rtlil_tree.specs.Said.{◌>>=◌, lexemes_of}
use Rattle.rtlil_tree.specs.Statements.{Statement, autoidx, attribute, begins, parameter, wire, cell, connect, cell_parameter, port_connect, ends}
use Rattle.rtlil_tree.specs.Forms as form
use Rattle.rtlil_tree.specs.Forms.{FileForm, ModuleForm, CellForm, WireForm, file_form_of, module_form_of, cell_form_of}
use Rattle.rtlil_tree.specs.Names.{is_among, module_names, wire_names, cell_names, port_names}
use Rattle.rtlil_tree.specs.Machine.{State, file, inside, within, start, has_some, unsupported, unless, with_items, module_begun, cell_begun, wire_made, connect_made, file_step, wire_step, module_step, cell_step, step, is_foreign, finish, run}
use Rattle.rtlil_tree.specs.Text.{AreInside, AreOfItem, AreOfItems, AreAutoidx, AreOfModules, IsWritten, AreWritten}
use Rattle.rtlil_tree.proofs.Running.{run_end, run_one, tree_behind, unless_ok, new_wire, foreign_stops, none_held}
use Rattle.rtlil_tree.specs.Placed.{AreFormed, IsOnLine, file_form, module_form, cell_form}
use Rattle.rtlil_tree.specs.Names.{HasNamesOnce}
use Rattle.rtlil_tree.specs.Text.{IsTreeText}
use Rattle.rtlil_tree.proofs.Distinct.{HasOnce, step_once, start_once}
use Rattle.rtlil_tree.proofs.Running.{AllFormed}
use Rattle.rtlil_tree.proofs.Binding.{bound}
use Rattle.rtlil_tree.proofs.WordLaws.{said_if_lexemes, is_file_statement, is_module_statement, is_cell_statement, wire_statement, parameter_line, connect_line, cell_parameter_line}

-- ---- what the lines that follow are, behind a state

-- between modules, behind attributes
pub record IsFileRest (ms : List Module) (held : List Attribute) (lines : List Line) (t : Tree) : Type 0 where
  pub statements : List Statement
  pub more : List Module
  pub written : AreWritten statements lines
  pub of_more : AreOfModules more (map attribute held ++ statements)
  pub modules : t.modules ≡ ms ++ more

-- in a module, behind attributes
pub record IsModuleRest (ms : List Module) (m : Module) (held : List Attribute) (lines : List Line) (t : Tree) : Type 0 where
  pub items : List Item
  pub inner : List Statement
  pub rest : List Statement
  pub more : List Module
  pub written : AreWritten (inner ++ ends ∷ rest) lines
  pub of_items : AreOfItems items (map attribute held ++ inner)
  pub of_more : AreOfModules more rest
  pub modules : t.modules ≡ ms ++ with_items m (m.items ++ items) ∷ more

-- the cell with further parameters and connects
abbrev pub cell_with : Cell → List Parameter → List PortConnect → Cell
cell_with c ps cs = record c { parameters = c.parameters ++ ps; connects = c.connects ++ cs }

pub bare_cell : (c : Cell) (ps : List Parameter) (cs : List PortConnect) → ps ≡ [] → cs ≡ [] → c ≡ cell_with c ps cs
bare_cell c ps cs no_ps no_cs =
    ap (λ (l : List Parameter). record c { parameters = l }) (sym (append-nil c.parameters) ∙ ap (λ (l : List Parameter). c.parameters ++ l) (sym no_ps))
    ∙ ap (λ (l : List PortConnect). record c { parameters = c.parameters ++ ps; connects = l }) (sym (append-nil c.connects) ∙ ap (λ (l : List PortConnect). c.connects ++ l) (sym no_cs))

-- in a cell
pub record IsCellRest (ms : List Module) (m : Module) (c : Cell) (lines : List Line) (t : Tree) : Type 0 where
  pub parameters : List Parameter
  pub connects : List PortConnect
  pub inside_cell : List Statement
  pub items : List Item
  pub inner : List Statement
  pub rest : List Statement
  pub more : List Module
  pub written : AreWritten (inside_cell ++ ends ∷ (inner ++ ends ∷ rest)) lines
  pub of_cell : AreInside parameters connects inside_cell
  pub of_items : AreOfItems items inner
  pub of_more : AreOfModules more rest
  pub modules : t.modules ≡ ms ++ with_items m (m.items ++ item.Cell (cell_with c parameters connects) ∷ items) ∷ more

abbrev pub Follows : State → List Line → Tree → Type 0
Follows (file ms held) lines t = IsFileRest ms held lines t
Follows (inside ms m held) lines t = IsModuleRest ms m held lines t
Follows (within ms m c) lines t = IsCellRest ms m c lines t

-- ---- lists

push : {A : Type 0} (xs : List A) (x : A) (ys : List A) → (xs ++ x ∷ []) ++ ys ≡ xs ++ x ∷ ys
push xs x ys = append_assoc xs (x ∷ []) ys

held_more : (held : List Attribute) (a : Attribute) (ss : List Statement) → map attribute (held ++ a ∷ []) ++ ss ≡ map attribute held ++ attribute a ∷ ss
held_more [] a ss = refl
held_more (h ∷ held) a ss = ap (λ (l : List Statement). attribute h ∷ l) (held_more held a ss)

ends_with : (xs ys zs : List Statement) (s : Statement) → xs ++ s ∷ (ys ++ zs) ≡ (xs ++ s ∷ ys) ++ zs
ends_with xs ys zs s = sym (append_assoc xs (s ∷ ys) zs)

-- ---- between modules

autoidx_more : (z : ℤ) (ss : List Statement) → AreAutoidx ss → AreAutoidx (autoidx z ∷ ss)
autoidx_more z ss h = (z ∷ h.0, ap (λ (l : List Statement). autoidx z ∷ l) h.1)

autoidx_before : (more : List Module) (z : ℤ) (ss : List Statement) → AreOfModules more ss → AreOfModules more (autoidx z ∷ ss)
autoidx_before [] z ss h = autoidx_more z ss h
autoidx_before (m ∷ more) z ss (before, first, rest, is, numbers, of_first, of_rest) =
    (autoidx z ∷ before, first, rest, ap (λ (l : List Statement). autoidx z ∷ l) is, autoidx_more z before numbers, of_first, of_rest)

pub at_autoidx : (ms : List Module) (held : List Attribute) (z : ℤ) (line : Line) (lines : List Line) (t : Tree) → held ≡ [] → IsWritten (autoidx z) line → IsFileRest ms held lines t → IsFileRest ms held (line ∷ lines) t
at_autoidx ms [] z line lines t none w r = record {
  statements = autoidx z ∷ r.statements;
  more = r.more;
  written = (w, r.written);
  of_more = autoidx_before r.more z r.statements r.of_more;
  modules = r.modules;
}
at_autoidx ms (a ∷ held) z line lines t none w r = absurd cc

pub at_attribute : (ms : List Module) (held : List Attribute) (a : Attribute) (line : Line) (lines : List Line) (t : Tree) → IsWritten (attribute a) line → IsFileRest ms (held ++ a ∷ []) lines t → IsFileRest ms held (line ∷ lines) t
at_attribute ms held a line lines t w r = record {
  statements = attribute a ∷ r.statements;
  more = r.more;
  written = (w, r.written);
  of_more = subst (AreOfModules r.more) (held_more held a r.statements) r.of_more;
  modules = r.modules;
}

-- a module's statements, where its attributes stand already
abbrev whole_module : Module → List Statement → List Statement
whole_module m inner = map attribute m.attributes ++ begins m ∷ (inner ++ ends ∷ [])

module_first : (m : Module) (inner rest : List Statement) → map attribute m.attributes ++ begins m ∷ (inner ++ ends ∷ rest) ≡ whole_module m inner ++ rest
module_first m inner rest =
    ap (λ (l : List Statement). map attribute m.attributes ++ begins m ∷ l) (sym (append_assoc inner (ends ∷ []) rest))
    ∙ ends_with (map attribute m.attributes) (inner ++ ends ∷ []) rest (begins m)

pub at_module : (ms : List Module) (m : Module) (line : Line) (lines : List Line) (t : Tree) → m.items ≡ [] → ((items : List Item) → IsWritten (begins (with_items m items)) line) → IsModuleRest ms m [] lines t → IsFileRest ms m.attributes (line ∷ lines) t
at_module ms m line lines t none w r =
    let all : m.items ++ r.items ≡ r.items = ap (λ (l : List Item). l ++ r.items) none in
    let whole : Module = with_items m r.items in
    record {
      statements = begins whole ∷ (r.inner ++ ends ∷ r.rest);
      more = whole ∷ r.more;
      written = (w r.items, r.written);
      of_more = ([], whole_module whole r.inner, r.rest, module_first whole r.inner r.rest, ([], refl), (r.inner, refl, r.of_items), r.of_more);
      modules = r.modules ∙ ap (λ (l : List Item). ms ++ with_items m l ∷ r.more) all;
    }

-- ---- in a module

pub at_inner_attribute : (ms : List Module) (m : Module) (held : List Attribute) (a : Attribute) (line : Line) (lines : List Line) (t : Tree) → IsWritten (attribute a) line → IsModuleRest ms m (held ++ a ∷ []) lines t → IsModuleRest ms m held (line ∷ lines) t
at_inner_attribute ms m held a line lines t w r = record {
  items = r.items;
  inner = attribute a ∷ r.inner;
  rest = r.rest;
  more = r.more;
  written = (w, r.written);
  of_items = subst (AreOfItems r.items) (held_more held a r.inner) r.of_items;
  of_more = r.of_more;
  modules = r.modules;
}

items_more : (ms more : List Module) (m : Module) (i : Item) (items : List Item) → ms ++ with_items m ((m.items ++ i ∷ []) ++ items) ∷ more ≡ ms ++ with_items m (m.items ++ i ∷ items) ∷ more
items_more ms more m i items = ap (λ (l : List Item). ms ++ with_items m l ∷ more) (push m.items i items)

-- an item of one statement, behind its attributes
pub at_item : (ms : List Module) (m : Module) (held : List Attribute) (i : Item) (s : Statement) (line : Line) (lines : List Line) (t : Tree) → AreOfItem i (map attribute held ++ s ∷ []) → IsWritten s line
    → IsModuleRest ms (with_items m (m.items ++ i ∷ [])) [] lines t → IsModuleRest ms m held (line ∷ lines) t
at_item ms m held i s line lines t of w r = record {
  items = i ∷ r.items;
  inner = s ∷ r.inner;
  rest = r.rest;
  more = r.more;
  written = (w, r.written);
  of_items = (map attribute held ++ s ∷ [], r.inner, sym (push (map attribute held) s r.inner), of, r.of_items);
  of_more = r.of_more;
  modules = r.modules ∙ items_more ms r.more m i r.items;
}

-- a cell's statements, where its attributes stand already
abbrev whole_cell : Cell → List Statement → List Statement
whole_cell c inside_cell = map attribute c.attributes ++ cell c ∷ (inside_cell ++ ends ∷ [])

cell_first : (c : Cell) (inside_cell inner : List Statement) → map attribute c.attributes ++ cell c ∷ (inside_cell ++ ends ∷ inner) ≡ whole_cell c inside_cell ++ inner
cell_first c inside_cell inner =
    ap (λ (l : List Statement). map attribute c.attributes ++ cell c ∷ l) (sym (append_assoc inside_cell (ends ∷ []) inner))
    ∙ ends_with (map attribute c.attributes) (inside_cell ++ ends ∷ []) inner (cell c)

cell_inner : (inside_cell inner rest : List Statement) → inside_cell ++ ends ∷ (inner ++ ends ∷ rest) ≡ (inside_cell ++ ends ∷ inner) ++ ends ∷ rest
cell_inner inside_cell inner rest = ends_with inside_cell inner (ends ∷ rest) ends

pub at_cell : (ms : List Module) (m : Module) (c : Cell) (line : Line) (lines : List Line) (t : Tree) → c.parameters ≡ [] → c.connects ≡ [] → ((ps : List Parameter) (cs : List PortConnect) → IsWritten (cell (cell_with c ps cs)) line) → IsCellRest ms m c lines t → IsModuleRest ms m c.attributes (line ∷ lines) t
at_cell ms m c line lines t none unconnected w r =
    let whole : Cell = cell_with c r.parameters r.connects in
    let all : AreInside whole.parameters whole.connects r.inside_cell =
    subst (λ (l : List PortConnect). AreInside whole.parameters (l ++ r.connects) r.inside_cell) (sym unconnected) (subst (λ (l : List Parameter). AreInside (l ++ r.parameters) r.connects r.inside_cell) (sym none) r.of_cell) in
    record {
      items = item.Cell whole ∷ r.items;
      inner = cell whole ∷ (r.inside_cell ++ ends ∷ r.inner);
      rest = r.rest;
      more = r.more;
      written = (w r.parameters r.connects, subst (λ (l : List Statement). AreWritten l lines) (cell_inner r.inside_cell r.inner r.rest) r.written);
      of_items = (whole_cell whole r.inside_cell, r.inner, cell_first whole r.inside_cell r.inner, (r.inside_cell, refl, all), r.of_items);
      of_more = r.of_more;
      modules = r.modules;
    }

pub at_module_end : (ms : List Module) (m : Module) (held : List Attribute) (line : Line) (lines : List Line) (t : Tree) → held ≡ [] → IsWritten ends line → IsFileRest (ms ++ m ∷ []) [] lines t → IsModuleRest ms m held (line ∷ lines) t
at_module_end ms m [] line lines t none w r = record {
  items = [];
  inner = [];
  rest = r.statements;
  more = r.more;
  written = (w, r.written);
  of_items = refl;
  of_more = r.of_more;
  modules = r.modules ∙ push ms m r.more ∙ ap (λ (l : List Item). ms ++ with_items m l ∷ r.more) (sym (append-nil m.items));
}
at_module_end ms m (a ∷ held) line lines t none w r = absurd cc

-- ---- in a cell

cells_more : (ms more : List Module) (m : Module) (items : List Item) (c d : Cell) → c ≡ d → ms ++ with_items m (m.items ++ item.Cell c ∷ items) ∷ more ≡ ms ++ with_items m (m.items ++ item.Cell d ∷ items) ∷ more
cells_more ms more m items c d e = ap (λ (x : Cell). ms ++ with_items m (m.items ++ item.Cell x ∷ items) ∷ more) e

pub at_cell_parameter : (ms : List Module) (m : Module) (c : Cell) (p : Parameter) (line : Line) (lines : List Line) (t : Tree) → IsWritten (cell_parameter p) line → IsCellRest ms m (record c { parameters = c.parameters ++ p ∷ [] }) lines t → IsCellRest ms m c (line ∷ lines) t
at_cell_parameter ms m c p line lines t w r = record {
  parameters = p ∷ r.parameters;
  connects = r.connects;
  inside_cell = cell_parameter p ∷ r.inside_cell;
  items = r.items;
  inner = r.inner;
  rest = r.rest;
  more = r.more;
  written = (w, r.written);
  of_cell = (r.parameters, refl, r.of_cell);
  of_items = r.of_items;
  of_more = r.of_more;
  modules = r.modules ∙ cells_more ms r.more m r.items _ (cell_with c (p ∷ r.parameters) r.connects) (ap (λ (l : List Parameter). record c { parameters = l; connects = c.connects ++ r.connects }) (push c.parameters p r.parameters));
}

pub at_port : (ms : List Module) (m : Module) (c : Cell) (p : PortConnect) (line : Line) (lines : List Line) (t : Tree) → IsWritten (port_connect p) line → IsCellRest ms m (record c { connects = c.connects ++ p ∷ [] }) lines t → IsCellRest ms m c (line ∷ lines) t
at_port ms m c p line lines t w r = record {
  parameters = r.parameters;
  connects = p ∷ r.connects;
  inside_cell = port_connect p ∷ r.inside_cell;
  items = r.items;
  inner = r.inner;
  rest = r.rest;
  more = r.more;
  written = (w, r.written);
  of_cell = (r.connects, refl, r.of_cell);
  of_items = r.of_items;
  of_more = r.of_more;
  modules = r.modules ∙ cells_more ms r.more m r.items _ (cell_with c r.parameters (p ∷ r.connects)) (ap (λ (l : List PortConnect). record c { parameters = c.parameters ++ r.parameters; connects = l }) (push c.connects p r.connects));
}

pub at_cell_end : (ms : List Module) (m : Module) (c : Cell) (line : Line) (lines : List Line) (t : Tree) → IsWritten ends line → IsModuleRest ms (with_items m (m.items ++ item.Cell c ∷ [])) [] lines t → IsCellRest ms m c (line ∷ lines) t
at_cell_end ms m c line lines t w r = record {
  parameters = [];
  connects = [];
  inside_cell = [];
  items = r.items;
  inner = r.inner;
  rest = r.rest;
  more = r.more;
  written = (w, r.written);
  of_cell = (refl, refl);
  of_items = r.of_items;
  of_more = r.of_more;
  modules = r.modules ∙ items_more ms r.more m (item.Cell c) r.items ∙ cells_more ms r.more m r.items c (cell_with c [] []) (bare_cell c [] [] refl refl);
}

-- ---- one statement

file_said : (line : Line) (s : Statement) (f : FileForm) → AreFormed line.tokens → file_form s ≡ Some f → IsOnLine s line.number → (lexemes_of line.tokens >>= file_form_of) ≡ Some f → IsWritten s line
file_said line s f formed is on e =
    let b = bound (lexemes_of line.tokens) file_form_of f e in
    record { lexemes = b.0; said = said_if_lexemes b.0 line.tokens formed b.1; form = (is_file_statement s f line.number b.0 is).1 (on, b.2) }

module_said : (line : Line) (s : Statement) (f : ModuleForm) → AreFormed line.tokens → module_form s ≡ Some f → IsOnLine s line.number → (lexemes_of line.tokens >>= module_form_of line.number) ≡ Some f → IsWritten s line
module_said line s f formed is on e =
    let b = bound (lexemes_of line.tokens) (module_form_of line.number) f e in
    record { lexemes = b.0; said = said_if_lexemes b.0 line.tokens formed b.1; form = (is_module_statement s f line.number b.0 is).1 (on, b.2) }

wire_said : (line : Line) (held : List Attribute) (w : WireForm) → AreFormed line.tokens → w.options.inout ≡ false → (lexemes_of line.tokens >>= module_form_of line.number) ≡ Some (form.wire w) → IsWritten (wire (wire_made line.number held w)) line
wire_said line held w formed none e =
    let b = bound (lexemes_of line.tokens) (module_form_of line.number) (form.wire w) e in
    record { lexemes = b.0; said = said_if_lexemes b.0 line.tokens formed b.1; form = wire_statement w line.number b.0 held b.2 none }

cell_said : (line : Line) (s : Statement) (f : CellForm) → AreFormed line.tokens → cell_form s ≡ Some f → IsOnLine s line.number → (lexemes_of line.tokens >>= cell_form_of line.number) ≡ Some f → IsWritten s line
cell_said line s f formed is on e =
    let b = bound (lexemes_of line.tokens) (cell_form_of line.number) f e in
    record { lexemes = b.0; said = said_if_lexemes b.0 line.tokens formed b.1; form = (is_cell_statement s f line.number b.0 is).1 (on, b.2) }

-- ---- one step

file_sound : (ms : List Module) (held : List Attribute) (line : Line) (lines : List Line) (t : Tree) (s : State) (f : Option FileForm) → AreFormed line.tokens → (lexemes_of line.tokens >>= file_form_of) ≡ f → file_step ms held line.number f ≡ Ok s → Follows s lines t → IsFileRest ms held (line ∷ lines) t
file_sound ms held line lines t s None formed e h r = absurd cc
file_sound ms held line lines t s (Some (form.autoidx z)) formed e h r =
    let u = unless_ok (has_some held) line.number (file ms held) s h in
    at_autoidx ms held z line lines t (none_held held u.0) (file_said line (autoidx z) (form.autoidx z) formed refl tt e) (subst (λ (x : State). Follows x lines t) (sym u.1) r)
file_sound ms held line lines t s (Some (form.attribute a)) formed e h r =
    let same : file ms (held ++ a ∷ []) ≡ s = cc in
    at_attribute ms held a line lines t (file_said line (attribute a) (form.attribute a) formed refl tt e) (subst (λ (x : State). Follows x lines t) (sym same) r)
file_sound ms held line lines t s (Some (form.begins name)) formed e h r =
    let u = unless_ok (is_among name (module_names ms)) line.number (inside ms (module_begun line.number name held) []) s h in
    at_module ms (module_begun line.number name held) line lines t refl
    (λ items. file_said line (begins (with_items (module_begun line.number name held) items)) (form.begins name) formed refl refl e)
    (subst (λ (x : State). Follows x lines t) (sym u.1) r)

wire_sound : (ms : List Module) (m : Module) (held : List Attribute) (w : WireForm) (line : Line) (lines : List Line) (t : Tree) (s : State) (inout : Bool) → AreFormed line.tokens → w.options.inout ≡ inout → (lexemes_of line.tokens >>= module_form_of line.number) ≡ Some (form.wire w)
    → cond inout (unsupported line.number) (Ok (inside ms (with_items m (m.items ++ item.Wire (wire_made line.number held w) ∷ [])) [])) ≡ Ok s → Follows s lines t → IsModuleRest ms m held (line ∷ lines) t
wire_sound ms m held w line lines t s true formed is e h r = absurd cc
wire_sound ms m held w line lines t s false formed is e h r =
    let same : inside ms (with_items m (m.items ++ item.Wire (wire_made line.number held w) ∷ [])) [] ≡ s = cc in
    at_item ms m held (item.Wire (wire_made line.number held w)) (wire (wire_made line.number held w)) line lines t refl (wire_said line held w formed is e) (subst (λ (x : State). Follows x lines t) (sym same) r)

item_sound : (ms : List Module) (m : Module) (held : List Attribute) (i : Item) (st : Statement) (line : Line) (lines : List Line) (t : Tree) (s : State) → AreOfItem i (st ∷ []) → IsWritten st line → unless (has_some held) line.number (inside ms (with_items m (m.items ++ i ∷ [])) held) ≡ Ok s → Follows s lines t → IsModuleRest ms m held (line ∷ lines) t
item_sound ms m [] i st line lines t s of w h r =
    let same : inside ms (with_items m (m.items ++ i ∷ [])) [] ≡ s = cc in
    at_item ms m [] i st line lines t of w (subst (λ (x : State). Follows x lines t) (sym same) r)
item_sound ms m (a ∷ held) i st line lines t s of w h r = absurd cc

module_sound : (ms : List Module) (m : Module) (held : List Attribute) (line : Line) (lines : List Line) (t : Tree) (s : State) (f : Option ModuleForm) → AreFormed line.tokens → (lexemes_of line.tokens >>= module_form_of line.number) ≡ f → module_step ms m held line.number f ≡ Ok s → Follows s lines t → IsModuleRest ms m held (line ∷ lines) t
module_sound ms m held line lines t s None formed e h r = absurd cc
module_sound ms m held line lines t s (Some (form.attribute_in a)) formed e h r =
    let same : inside ms m (held ++ a ∷ []) ≡ s = cc in
    at_inner_attribute ms m held a line lines t (module_said line (attribute a) (form.attribute_in a) formed refl tt e) (subst (λ (x : State). Follows x lines t) (sym same) r)
module_sound ms m held line lines t s (Some (form.parameter p)) formed e h r =
    let b = bound (lexemes_of line.tokens) (module_form_of line.number) (form.parameter p) e in
    item_sound ms m held (item.Parameter p) (parameter p) line lines t s refl (module_said line (parameter p) (form.parameter p) formed refl (parameter_line p line.number b.0 b.2) e) h r
module_sound ms m held line lines t s (Some (form.wire w)) formed e h r =
    let n = new_wire (is_among w.name (wire_names m.items)) line.number (wire_step ms m held line.number w) s h in
    wire_sound ms m held w line lines t s w.options.inout formed refl e n.1 r
module_sound ms m held line lines t s (Some (form.cell_begins kind name)) formed e h r =
    let u = unless_ok (is_among name (cell_names m.items)) line.number (within ms m (cell_begun line.number kind name held)) s h in
    at_cell ms m (cell_begun line.number kind name held) line lines t refl refl
    (λ ps cs. module_said line (cell (cell_with (cell_begun line.number kind name held) ps cs)) (form.cell_begins kind name) formed refl refl e)
    (subst (λ (x : State). Follows x lines t) (sym u.1) r)
module_sound ms m held line lines t s (Some (form.connect c)) formed e h r =
    let b = bound (lexemes_of line.tokens) (module_form_of line.number) (form.connect c) e in
    item_sound ms m held (item.Connect c) (connect c) line lines t s refl (module_said line (connect c) (form.connect c) formed refl (connect_line c line.number b.0 b.2) e) h r
module_sound ms m held line lines t s (Some form.ends) formed e h r =
    let u = unless_ok (has_some held) line.number (file (ms ++ m ∷ []) []) s h in
    at_module_end ms m held line lines t (none_held held u.0) (module_said line ends form.ends formed refl tt e) (subst (λ (x : State). Follows x lines t) (sym u.1) r)

cell_sound : (ms : List Module) (m : Module) (c : Cell) (line : Line) (lines : List Line) (t : Tree) (s : State) (f : Option CellForm) → AreFormed line.tokens → (lexemes_of line.tokens >>= cell_form_of line.number) ≡ f → cell_step ms m c line.number f ≡ Ok s → Follows s lines t → IsCellRest ms m c (line ∷ lines) t
cell_sound ms m c line lines t s None formed e h r = absurd cc
cell_sound ms m c line lines t s (Some (form.cell_parameter p)) formed e h r =
    let same : within ms m (record c { parameters = c.parameters ++ p ∷ [] }) ≡ s = cc in
    let b = bound (lexemes_of line.tokens) (cell_form_of line.number) (form.cell_parameter p) e in
    at_cell_parameter ms m c p line lines t (cell_said line (cell_parameter p) (form.cell_parameter p) formed refl (cell_parameter_line p line.number b.0 b.2) e) (subst (λ (x : State). Follows x lines t) (sym same) r)
cell_sound ms m c line lines t s (Some (form.port_connect port signal)) formed e h r =
    let u = unless_ok (is_among port (port_names c.connects)) line.number (within ms m (record c { connects = c.connects ++ connect_made line.number port signal ∷ [] })) s h in
    at_port ms m c (connect_made line.number port signal) line lines t (cell_said line (port_connect (connect_made line.number port signal)) (form.port_connect port signal) formed refl refl e) (subst (λ (x : State). Follows x lines t) (sym u.1) r)
cell_sound ms m c line lines t s (Some form.cell_ends) formed e h r =
    let same : inside ms (with_items m (m.items ++ item.Cell c ∷ [])) [] ≡ s = cc in
    at_cell_end ms m c line lines t (cell_said line ends form.cell_ends formed refl tt e) (subst (λ (x : State). Follows x lines t) (sym same) r)

pub step_sound : (s u : State) (line : Line) (lines : List Line) (t : Tree) → AreFormed line.tokens → step s line ≡ Ok u → Follows u lines t → Follows s (line ∷ lines) t
step_sound (file ms held) u line lines t formed h r = file_sound ms held line lines t u (lexemes_of line.tokens >>= file_form_of) formed refl h r
step_sound (inside ms m held) u line lines t formed h r =
    module_sound ms m held line lines t u (lexemes_of line.tokens >>= module_form_of line.number) formed refl (foreign_stops (is_foreign line.tokens) line.number _ u h).1 r
step_sound (within ms m c) u line lines t formed h r = cell_sound ms m c line lines t u (lexemes_of line.tokens >>= cell_form_of line.number) formed refl h r

-- ---- the end

pub finish_sound : (e : ℕ) (s : State) (t : Tree) → finish e s ≡ Ok t → (ms : List Module) × (s ≡ file ms []) × (t ≡ record { modules = ms })
finish_sound e (file ms []) t h = let same : ◌≡◌ {A = Tree} (record { modules = ms }) t = cc in (ms, refl, sym same)
finish_sound e (file ms (a ∷ held)) t h = absurd cc
finish_sound e (inside ms m held) t h = absurd cc
finish_sound e (within ms m c) t h = absurd cc

end_follows : (ms : List Module) (t : Tree) → t ≡ record { modules = ms } → IsFileRest ms [] [] t
end_follows ms t h = record {
  statements = [];
  more = [];
  written = refl;
  of_more = ([], refl);
  modules = ap (λ (x : Tree). x.modules) h ∙ sym (append-nil ms);
}

step_and_on : (e : ℕ) (s : State) (line : Line) (lines : List Line) (t : Tree) (x : Result State Refusal) → AreFormed line.tokens → step s line ≡ x → tree_behind e lines x ≡ Ok t → ((u : State) → run e u lines ≡ Ok t → Follows u lines t) → Follows s (line ∷ lines) t
step_and_on e s line lines t (Ok u) formed is h more = step_sound s u line lines t formed is (more u h)
step_and_on e s line lines t (Err r) formed is h more = absurd cc

-- what follows the state is what the reader goes through
pub run_follows : (e : ℕ) (s : State) (lines : List Line) (t : Tree) → AllFormed lines → run e s lines ≡ Ok t → Follows s lines t
run_follows e s [] t formed h =
    let f = finish_sound e s t (sym (run_end e s) ∙ h) in
    subst (λ (x : State). Follows x [] t) (sym f.1) (end_follows f.0 t f.2)
run_follows e s (line ∷ lines) t formed h =
    step_and_on e s line lines t (step s line) formed.0 refl (sym (run_one e s line lines) ∙ h) (λ u. run_follows e u lines t formed.1)

finish_once : (e : ℕ) (s : State) (t : Tree) → HasOnce s → finish e s ≡ Ok t → HasNamesOnce t
finish_once e s t o h =
    let f = finish_sound e s t h in
    let names : HasNamesOnce (record { modules = f.0 }) = subst HasOnce f.1 o in
    subst HasNamesOnce (sym f.2) names

once_and_on : (e : ℕ) (s : State) (line : Line) (lines : List Line) (t : Tree) (x : Result State Refusal) → HasOnce s → step s line ≡ x → tree_behind e lines x ≡ Ok t → ((u : State) → HasOnce u → run e u lines ≡ Ok t → HasNamesOnce t) → HasNamesOnce t
once_and_on e s line lines t (Ok u) o is h more = more u (step_once s u line o is) h
once_and_on e s line lines t (Err r) o is h more = absurd cc

run_once : (e : ℕ) (s : State) (lines : List Line) (t : Tree) → HasOnce s → run e s lines ≡ Ok t → HasNamesOnce t
run_once e s [] t o h = finish_once e s t o (sym (run_end e s) ∙ h)
run_once e s (line ∷ lines) t o h =
    once_and_on e s line lines t (step s line) o refl (sym (run_one e s line lines) ∙ h) (λ u. run_once e u lines t)

-- a tree that the reader answers is the one of the text
pub sound : (e : ℕ) (lines : List Line) (t : Tree) → AllFormed lines → run e start lines ≡ Ok t → IsTreeText lines t
sound e lines t formed h =
    let r : IsFileRest [] [] lines t = run_follows e start lines t formed h in
    record {
      statements = r.statements;
      of_tree = subst (λ (ms : List Module). AreOfModules ms r.statements) (sym r.modules) r.of_more;
      written = r.written;
      names = run_once e start lines t start_once h;
    }
