-- Names that stand once, as the reader finds them.
use Rattle.std.proofs.Common.{◌≡◌, ℕ, Bool, true, false, not, ◌&&◌, ◌||◌, cond, List, [], ◌∷◌, ◌++◌, refl, ap, ◌∙◌, sym, subst, ⊎_elim, Option, Some, None, Result, Ok}
use Rattle.std.specs.Prelude.{IsTrue}
use Rattle.std.proofs.lemmas.List.{append-nil, map-append}
use Rattle.std.proofs.lemmas.List.Folds.{list_any-append}
use Rattle.std.proofs.lemmas.Grind.{flat_map-append}
use Rattle.std.proofs.lemmas.Bool.{cases_Bool, not-true}
use Rattle.std.proofs.lemmas.Slice.Eq.{bytes_eq-Decides}
use Rattle.std.specs.Str.{bytes_eq}
use Rattle.std.specs.List.{AllByRecursion}
use Rattle.circuit_types.specs.declared.refusal.Refusal.{Refusal}
use Rattle.circuit_types.specs.declared.tree.Tree.{Tree}
use Rattle.circuit_types.specs.declared.tree.Module.{Module}
use Rattle.circuit_types.specs.declared.tree.Attribute.{Attribute}
use Rattle.circuit_types.specs.declared.tree.Parameter.{Parameter}
use Rattle.circuit_types.specs.declared.tree.Item.{Item}
use Rattle.circuit_types.specs.declared.tree.Item.TheVariants as item
use Rattle.circuit_types.specs.declared.tree.Wire.{Wire}
use Rattle.circuit_types.specs.declared.tree.Cell.{Cell}
use Rattle.circuit_types.specs.declared.tree.PortConnect.{PortConnect}
use Rattle.rtlil_tree.specs.Lines.{Line}
use Rattle.rtlil_tree.specs.Said.{◌>>=◌, lexemes_of}
use Rattle.rtlil_tree.specs.Forms as form
use Rattle.rtlil_tree.specs.Forms.{FileForm, ModuleForm, CellForm, WireForm, file_form_of, module_form_of, cell_form_of}
use Rattle.rtlil_tree.specs.Names.{is_among, are_distinct, wire_name, cell_name, wire_names, cell_names, port_names, module_names, HasPortsOnce, HasItemsOnce, HasNamesOnce}
use Rattle.rtlil_tree.specs.Machine.{State, file, inside, within, has_some, unsupported, unless, with_items, module_begun, cell_begun, wire_made, connect_made, file_step, wire_step, module_step, cell_step, step, is_foreign}
use Rattle.rtlil_tree.proofs.Running.{unless_ok, new_wire, foreign_stops}

-- ---- tests

or_none : (a b : Bool) → (a || b) ≡ false → (a ≡ false) × (b ≡ false)
or_none false b h = (refl, h)
or_none true b h = absurd cc

pub and_both : (a b : Bool) → (a && b) ≡ true → (a ≡ true) × (b ≡ true)
and_both true b h = (refl, h)
and_both false b h = absurd cc

both_and : (a b : Bool) → a ≡ true → b ≡ true → (a && b) ≡ true
both_and true b h g = g
both_and false b h g = absurd cc

pub neither : (a b : Bool) → a ≡ false → b ≡ false → (a || b) ≡ false
neither false b h g = g
neither true b h g = absurd cc

negated : (a : Bool) → a ≡ false → not a ≡ true
negated a h = ap not h

unequal : (a b : List ℕ) → bytes_eq a b ≡ false → bytes_eq b a ≡ false
unequal a b h =
    ⊎_elim
    (λ same. let e : bytes_eq a b ≡ true = (bytes_eq-Decides a b).1 (sym ((bytes_eq-Decides b a).0 same)) in absurd cc)
    (λ other. other)
    (cases_Bool (bytes_eq b a))

-- ---- lists of names

pub distinct_more : (names : List (List ℕ)) (n : List ℕ) → is_among n names ≡ false → IsTrue (are_distinct names) → IsTrue (are_distinct (names ++ n ∷ []))
distinct_more [] n new h = refl
distinct_more (x ∷ names) n new h =
    let not_first = or_none (bytes_eq n x) (is_among n names) new in
    let both = and_both (not (is_among x names)) (are_distinct names) h in
    let last : (bytes_eq x n || false) ≡ false = neither (bytes_eq x n) false (unequal n x not_first.0) refl in
    let alone : is_among x (names ++ n ∷ []) ≡ false =
    list_any-append (bytes_eq x) names (n ∷ []) ∙ neither (is_among x names) (bytes_eq x n || false) (not-true (is_among x names) both.0) last in
    both_and (not (is_among x (names ++ n ∷ []))) (are_distinct (names ++ n ∷ [])) (negated (is_among x (names ++ n ∷ [])) alone) (distinct_more names n not_first.1 both.1)

pub distinct_before : (names : List (List ℕ)) (n : List ℕ) (more : List (List ℕ)) → IsTrue (are_distinct (names ++ n ∷ more)) → is_among n names ≡ false
distinct_before [] n more h = refl
distinct_before (x ∷ names) n more h =
    let both = and_both (not (is_among x (names ++ n ∷ more))) (are_distinct (names ++ n ∷ more)) h in
    let alone : (is_among x names || (bytes_eq x n || is_among x more)) ≡ false = sym (list_any-append (bytes_eq x) names (n ∷ more)) ∙ not-true (is_among x (names ++ n ∷ more)) both.0 in
    let rest = or_none (is_among x names) (bytes_eq x n || is_among x more) alone in
    neither (bytes_eq n x) (is_among n names) (unequal x n (or_none (bytes_eq x n) (is_among x more) rest.1).0) (distinct_before names n more both.1)

pub all_more : {A : Type 0} (P : A → Type 0) (xs : List A) (x : A) → AllByRecursion P xs → P x → AllByRecursion P (xs ++ x ∷ [])
all_more P [] x h p = (p, tt)
all_more P (y ∷ xs) x h p = (h.0, all_more P xs x h.1 p)

pub all_at : {A : Type 0} (P : A → Type 0) (xs : List A) (x : A) (ys : List A) → AllByRecursion P (xs ++ x ∷ ys) → P x
all_at P [] x ys h = h.0
all_at P (y ∷ xs) x ys h = all_at P xs x ys h.1

-- ---- items

-- one item more, whose names are new
items_once : (items : List Item) (i : Item) → HasItemsOnce items → IsTrue (are_distinct (wire_names items ++ wire_name i)) → IsTrue (are_distinct (cell_names items ++ cell_name i)) → HasPortsOnce i → HasItemsOnce (items ++ i ∷ [])
items_once items i h wires cells ports = record {
  wires = subst (λ l. IsTrue (are_distinct l)) (sym (flat_map-append wire_name items (i ∷ []) ∙ ap (λ l. wire_names items ++ l) (append-nil (wire_name i)))) wires;
  cells = subst (λ l. IsTrue (are_distinct l)) (sym (flat_map-append cell_name items (i ∷ []) ∙ ap (λ l. cell_names items ++ l) (append-nil (cell_name i)))) cells;
  ports = all_more HasPortsOnce items i h.ports ports;
}

same_names : (names : List (List ℕ)) → IsTrue (are_distinct names) → IsTrue (are_distinct (names ++ []))
same_names names h = subst (λ l. IsTrue (are_distinct l)) (sym (append-nil names)) h

pub once_parameter : (items : List Item) (p : Parameter) → HasItemsOnce items → HasItemsOnce (items ++ item.Parameter p ∷ [])
once_parameter items p h = items_once items (item.Parameter p) h (same_names (wire_names items) h.wires) (same_names (cell_names items) h.cells) tt

pub once_wire : (items : List Item) (w : Wire) → HasItemsOnce items → is_among w.name (wire_names items) ≡ false → HasItemsOnce (items ++ item.Wire w ∷ [])
once_wire items w h new = items_once items (item.Wire w) h (distinct_more (wire_names items) w.name new h.wires) (same_names (cell_names items) h.cells) tt

pub once_cell : (items : List Item) (c : Cell) → HasItemsOnce items → is_among c.name (cell_names items) ≡ false → IsTrue (are_distinct (port_names c.connects)) → HasItemsOnce (items ++ item.Cell c ∷ [])
once_cell items c h new ports = items_once items (item.Cell c) h (same_names (wire_names items) h.wires) (distinct_more (cell_names items) c.name new h.cells) ports

pub once_connect : (items : List Item) (c : Rattle.circuit_types.specs.declared.tree.Connect.Connect) → HasItemsOnce items → HasItemsOnce (items ++ item.Connect c ∷ [])
once_connect items c h = items_once items (item.Connect c) h (same_names (wire_names items) h.wires) (same_names (cell_names items) h.cells) tt

pub no_items : HasItemsOnce []
no_items = record { wires = refl; cells = refl; ports = tt }

pub port_more : (cs : List PortConnect) (c : PortConnect) → IsTrue (are_distinct (port_names cs)) → is_among c.port (port_names cs) ≡ false → IsTrue (are_distinct (port_names (cs ++ c ∷ [])))
port_more cs c h new = subst (λ l. IsTrue (are_distinct l)) (sym (map-append (λ (x : PortConnect). x.port) cs (c ∷ []))) (distinct_more (port_names cs) c.port new h)

abbrev pub tree_of : List Module → Tree
tree_of ms = record { modules = ms }

pub once_module : (ms : List Module) (m : Module) → HasNamesOnce (tree_of ms) → is_among m.name (module_names ms) ≡ false → HasItemsOnce m.items → HasNamesOnce (tree_of (ms ++ m ∷ []))
once_module ms m h new items = record {
  modules = subst (λ l. IsTrue (are_distinct l)) (sym (map-append (λ (x : Module). x.name) ms (m ∷ []))) (distinct_more (module_names ms) m.name new h.modules);
  items = all_more (λ (x : Module). HasItemsOnce x.items) ms m h.items items;
}

-- ---- the names of a state

pub record IsBegun (ms : List Module) (m : Module) : Type 0 where
  pub modules : HasNamesOnce (tree_of ms)
  pub new : is_among m.name (module_names ms) ≡ false
  pub items : HasItemsOnce m.items

pub record IsCellBegun (ms : List Module) (m : Module) (c : Cell) : Type 0 where
  pub begun : IsBegun ms m
  pub new : is_among c.name (cell_names m.items) ≡ false
  pub ports : IsTrue (are_distinct (port_names c.connects))

abbrev pub HasOnce : State → Type 0
HasOnce (file ms held) = HasNamesOnce (tree_of ms)
HasOnce (inside ms m held) = IsBegun ms m
HasOnce (within ms m c) = IsCellBegun ms m c

pub start_once : HasNamesOnce (tree_of [])
start_once = record { modules = refl; items = tt }

is_moved : (s u : State) → ◌≡◌ {A = Result State Refusal} (Ok s) (Ok u) → HasOnce s → HasOnce u
is_moved s u h o = let same : s ≡ u = cc in subst HasOnce same o

is_kept : (bad : Bool) (line : ℕ) (s u : State) → unless bad line s ≡ Ok u → (bad ≡ false → HasOnce s) → HasOnce u
is_kept bad line s u h o = let k = unless_ok bad line s u h in subst HasOnce k.1 (o k.0)

file_once : (ms : List Module) (held : List Attribute) (line : ℕ) (f : Option FileForm) (u : State) → HasNamesOnce (tree_of ms) → file_step ms held line f ≡ Ok u → HasOnce u
file_once ms held line None u o h = absurd cc
file_once ms held line (Some (form.autoidx z)) u o h = is_kept (has_some held) line (file ms held) u h (λ e. o)
file_once ms held line (Some (form.attribute a)) u o h = is_moved (file ms (held ++ a ∷ [])) u h o
file_once ms held line (Some (form.begins name)) u o h =
    is_kept (is_among name (module_names ms)) line (inside ms (module_begun line name held) []) u h (λ e. record { modules = o; new = e; items = no_items })

begun_more : (ms : List Module) (m : Module) (items : List Item) → IsBegun ms m → HasItemsOnce items → IsBegun ms (with_items m items)
begun_more ms m items o h = record { modules = o.modules; new = o.new; items = h }

wire_once : (ms : List Module) (m : Module) (held : List Attribute) (line : ℕ) (w : WireForm) (inout : Bool) (u : State) → IsBegun ms m → is_among w.name (wire_names m.items) ≡ false
    → cond inout (unsupported line) (Ok (inside ms (with_items m (m.items ++ item.Wire (wire_made line held w) ∷ [])) [])) ≡ Ok u → HasOnce u
wire_once ms m held line w true u o new h = absurd cc
wire_once ms m held line w false u o new h =
    is_moved (inside ms (with_items m (m.items ++ item.Wire (wire_made line held w) ∷ [])) []) u h (begun_more ms m _ o (once_wire m.items (wire_made line held w) o.items new))

module_once : (ms : List Module) (m : Module) (held : List Attribute) (line : ℕ) (f : Option ModuleForm) (u : State) → IsBegun ms m → module_step ms m held line f ≡ Ok u → HasOnce u
module_once ms m held line None u o h = absurd cc
module_once ms m held line (Some (form.attribute_in a)) u o h = is_moved (inside ms m (held ++ a ∷ [])) u h o
module_once ms m held line (Some (form.parameter p)) u o h =
    is_kept (has_some held) line (inside ms (with_items m (m.items ++ item.Parameter p ∷ [])) held) u h (λ e. begun_more ms m _ o (once_parameter m.items p o.items))
module_once ms m held line (Some (form.wire w)) u o h =
    let n = new_wire (is_among w.name (wire_names m.items)) line (wire_step ms m held line w) u h in
    wire_once ms m held line w w.options.inout u o n.0 n.1
module_once ms m held line (Some (form.cell_begins kind name)) u o h =
    is_kept (is_among name (cell_names m.items)) line (within ms m (cell_begun line kind name held)) u h (λ e. record { begun = o; new = e; ports = refl })
module_once ms m held line (Some (form.connect c)) u o h =
    is_kept (has_some held) line (inside ms (with_items m (m.items ++ item.Connect c ∷ [])) held) u h (λ e. begun_more ms m _ o (once_connect m.items c o.items))
module_once ms m held line (Some form.ends) u o h =
    is_kept (has_some held) line (file (ms ++ m ∷ []) []) u h (λ e. once_module ms m o.modules o.new o.items)

cell_once : (ms : List Module) (m : Module) (c : Cell) (line : ℕ) (f : Option CellForm) (u : State) → IsCellBegun ms m c → cell_step ms m c line f ≡ Ok u → HasOnce u
cell_once ms m c line None u o h = absurd cc
cell_once ms m c line (Some (form.cell_parameter p)) u o h = is_moved (within ms m (record c { parameters = c.parameters ++ p ∷ [] })) u h (record { begun = o.begun; new = o.new; ports = o.ports })
cell_once ms m c line (Some (form.port_connect port signal)) u o h =
    is_kept (is_among port (port_names c.connects)) line (within ms m (record c { connects = c.connects ++ connect_made line port signal ∷ [] })) u h
    (λ e. record { begun = o.begun; new = o.new; ports = port_more c.connects (connect_made line port signal) o.ports e })
cell_once ms m c line (Some form.cell_ends) u o h =
    is_moved (inside ms (with_items m (m.items ++ item.Cell c ∷ [])) []) u h (begun_more ms m _ o.begun (once_cell m.items c o.begun.items o.new o.ports))

pub step_once : (s u : State) (line : Line) → HasOnce s → step s line ≡ Ok u → HasOnce u
step_once (file ms held) u line o h = file_once ms held line.number (lexemes_of line.tokens >>= file_form_of) u o h
step_once (inside ms m held) u line o h =
    module_once ms m held line.number (lexemes_of line.tokens >>= module_form_of line.number) u o (foreign_stops (is_foreign line.tokens) line.number _ u h).1
step_once (within ms m c) u line o h = cell_once ms m c line.number (lexemes_of line.tokens >>= cell_form_of line.number) u o h
