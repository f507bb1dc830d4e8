-- The forms that the reader finds, by place, are those of the statements that may stand there.
use Rattle.std.proofs.Common.{◌≡◌, ◌↔◌, ℕ, ℤ, List, [], ◌∷◌, ◌++◌, flat_map, refl, ap, ◌∙◌, sym, subst, Bool, false, Option, Some, None, option_map}
use Rattle.circuit_types.specs.declared.signal.Value.{Value}
use Rattle.circuit_types.specs.declared.signal.Value.TheVariants as value
use Rattle.circuit_types.specs.declared.signal.Signal.{Signal}
use Rattle.circuit_types.specs.declared.tree.Attribute.{Attribute}
use Rattle.circuit_types.specs.declared.tree.Parameter.{Parameter}
use Rattle.circuit_types.specs.declared.tree.ParameterForm.{ParameterForm}
use Rattle.circuit_types.specs.declared.tree.ParameterForm.TheVariants as form
use Rattle.circuit_types.specs.declared.tree.Port.{Port}
use Rattle.circuit_types.specs.declared.tree.Port.TheVariants as port
use Rattle.circuit_types.specs.declared.tree.Wire.{Wire}
use Rattle.circuit_types.specs.declared.tree.Connect.{Connect}
use Rattle.rtlil_tree.specs.declared.keyword.Keyword.TheVariants as word
use Rattle.rtlil_tree.specs.declared.options.Options.{Options}
use Rattle.rtlil_tree.specs.Lexemes.{Lexeme, key, id, constant}
use Rattle.rtlil_tree.specs.Statements.{Statement, IsStatement, IsWire, AreSignals, option_lexemes, options_said, port_said, optional, form_lexemes}
use Rattle.rtlil_tree.specs.Said.{◌>>=◌}
use Rattle.rtlil_tree.specs.Forms.{constant_of, FileForm, WireForm, ModuleForm, CellForm, attribute_of, autoidx_of, begins_of, file_form_of, parameter_with, module_parameter_of, wire_of, cell_of, one_of, two_of, connect_of, end_of, module_form_of, parameter_form_of, cell_parameter_of, port_connect_of, cell_form_of, signals_of, only_signal}
use Rattle.rtlil_tree.specs.Machine.{wire_made, module_begun, cell_begun, connect_made}
use Rattle.rtlil_tree.specs.Placed.{input_of, output_of, wire_form, file_form, module_form, cell_form, IsOnLine, IsWireForm}
use Rattle.rtlil_tree.proofs.Binding.{bound, mapped, once}
use Rattle.rtlil_tree.proofs.Signalling.{signals_if_are, are_if_signals}
use Rattle.rtlil_tree.proofs.Optioning.{wire_of_written, wire_words}

-- ---- what follows the first word

constant_is : (x : Lexeme) (v : Value) → constant_of x ≡ Some v → x ≡ constant v
constant_is (constant u) v e = ap (λ (w : Value). constant w) (once u v e)
constant_is x v e = absurd cc

abbrev noted : List ℕ → Value → Attribute
noted name v = record { name = name; value = v }

attribute_words : (xs : List Lexeme) (a : Attribute) → attribute_of xs ≡ Some a → xs ≡ id a.name ∷ constant a.value ∷ []
attribute_words (id name ∷ x ∷ []) a e =
    let b = bound (constant_of x) (λ v. Some (noted name v)) a e in
    subst (λ (c : Attribute). id name ∷ x ∷ [] ≡ id c.name ∷ constant c.value ∷ []) (once (noted name b.0) a b.2) (ap (λ y. id name ∷ y ∷ []) (constant_is x b.0 b.1))
attribute_words xs a e = absurd cc

two_words : (ss : List Signal) (sides : Signal × Signal) → two_of ss ≡ Some sides → ss ≡ sides.0 ∷ sides.1 ∷ []
two_words (l ∷ r ∷ []) sides e = ap (λ (s : Signal × Signal). s.0 ∷ s.1 ∷ []) (once (l, r) sides e)
two_words ss sides e = absurd cc

one_words : (ss : List Signal) (s : Signal) → one_of ss ≡ Some s → ss ≡ s ∷ []
one_words (t ∷ []) s e = ap (λ (x : Signal). x ∷ []) (once t s e)
one_words ss s e = absurd cc

-- ---- between modules

abbrev IsFileWords : FileForm → List Lexeme → Type 0
IsFileWords (FileForm.autoidx z) xs = xs ≡ key word.Autoidx ∷ constant (value.Number z) ∷ []
IsFileWords (FileForm.attribute a) xs = xs ≡ key word.Attribute ∷ id a.name ∷ constant a.value ∷ []
IsFileWords (FileForm.begins name) xs = xs ≡ key word.Module ∷ id name ∷ []

autoidx_words : (xs : List Lexeme) (f : FileForm) → autoidx_of xs ≡ Some f → IsFileWords f (key word.Autoidx ∷ xs)
autoidx_words (constant (value.Number z) ∷ []) f e = subst (λ (g : FileForm). IsFileWords g (key word.Autoidx ∷ constant (value.Number z) ∷ [])) (once (FileForm.autoidx z) f e) refl
autoidx_words xs f e = absurd cc

begins_words : (xs : List Lexeme) (f : FileForm) → begins_of xs ≡ Some f → IsFileWords f (key word.Module ∷ xs)
begins_words (id name ∷ []) f e = subst (λ (g : FileForm). IsFileWords g (key word.Module ∷ id name ∷ [])) (once (FileForm.begins name) f e) refl
begins_words xs f e = absurd cc

file_attribute_words : (xs : List Lexeme) (f : FileForm) → option_map FileForm.attribute (attribute_of xs) ≡ Some f → IsFileWords f (key word.Attribute ∷ xs)
file_attribute_words xs f e =
    let m = mapped FileForm.attribute (attribute_of xs) f e in
    subst (λ (g : FileForm). IsFileWords g (key word.Attribute ∷ xs)) m.2 (ap (λ l. key word.Attribute ∷ l) (attribute_words xs m.0 m.1))

file_words : (xs : List Lexeme) (f : FileForm) → file_form_of xs ≡ Some f → IsFileWords f xs
file_words (key word.Autoidx ∷ xs) f e = autoidx_words xs f e
file_words (key word.Attribute ∷ xs) f e = file_attribute_words xs f e
file_words (key word.Module ∷ xs) f e = begins_words xs f e
file_words xs f e = absurd cc

pub is_file_statement : (s : Statement) (f : FileForm) (line : ℕ) (xs : List Lexeme) → file_form s ≡ Some f → IsStatement s line xs ↔ (IsOnLine s line × (file_form_of xs ≡ Some f))
is_file_statement (Statement.autoidx z) f line xs e = (λ h. (tt, ap file_form_of h ∙ e), λ p. file_words xs (FileForm.autoidx z) (p.1 ∙ sym e))
is_file_statement (Statement.attribute a) f line xs e = (λ h. (tt, ap file_form_of h ∙ e), λ p. file_words xs (FileForm.attribute a) (p.1 ∙ sym e))
is_file_statement (Statement.begins m) f line xs e = (λ h. (h.0, ap file_form_of h.1 ∙ e), λ p. (p.0, file_words xs (FileForm.begins m.name) (p.1 ∙ sym e)))
is_file_statement s f line xs e = absurd cc

-- ---- in a module

abbrev AreConnectWords : Connect → ℕ → List Lexeme → Type 0
AreConnectWords c line xs = (c.line ≡ line) × (signals : List Lexeme) × (xs ≡ key word.Connect ∷ signals) × AreSignals (c.left ∷ c.right ∷ []) signals

abbrev AreParameterWords : Parameter → ℕ → List Lexeme → Type 0
AreParameterWords p line xs = (p.line ≡ line) × (p.form ≡ form.Plain) × (xs ≡ key word.Parameter ∷ id p.name ∷ optional p.value)

abbrev IsModuleWords : ModuleForm → ℕ → List Lexeme → Type 0
IsModuleWords (ModuleForm.attribute_in a) line xs = xs ≡ key word.Attribute ∷ id a.name ∷ constant a.value ∷ []
IsModuleWords (ModuleForm.parameter p) line xs = AreParameterWords p line xs
IsModuleWords (ModuleForm.wire f) line xs = IsWireForm f xs
IsModuleWords (ModuleForm.cell_begins kind name) line xs = xs ≡ key word.Cell ∷ id kind ∷ id name ∷ []
IsModuleWords (ModuleForm.connect c) line xs = AreConnectWords c line xs
IsModuleWords ModuleForm.ends line xs = xs ≡ key word.End ∷ []

parameter_words : (line : ℕ) (xs : List Lexeme) (p : Parameter) → module_parameter_of line xs ≡ Some p → AreParameterWords p line (key word.Parameter ∷ xs)
parameter_words line (id name ∷ []) p e =
    subst (λ (q : Parameter). AreParameterWords q line (key word.Parameter ∷ id name ∷ [])) (once (parameter_with line form.Plain name None) p e) (refl, refl, refl)
parameter_words line (id name ∷ x ∷ []) p e =
    let b = bound (constant_of x) (λ v. Some (parameter_with line form.Plain name (Some v))) p e in
    subst (λ (q : Parameter). AreParameterWords q line (key word.Parameter ∷ id name ∷ x ∷ [])) (once (parameter_with line form.Plain name (Some b.0)) p b.2)
    (refl, refl, ap (λ y. key word.Parameter ∷ id name ∷ y ∷ []) (constant_is x b.0 b.1))
parameter_words line xs p e = absurd cc

abbrev joining : ℕ → Signal × Signal → Connect
joining line sides = record { line = line; left = sides.0; right = sides.1 }

connect_words : (line : ℕ) (xs : List Lexeme) (c : Connect) → connect_of line xs ≡ Some c → AreConnectWords c line (key word.Connect ∷ xs)
connect_words line xs c e =
    let b = bound (signals_of xs) (λ ss. two_of ss >>= λ sides. Some (joining line sides)) c e in
    let d = bound (two_of b.0) (λ sides. Some (joining line sides)) c b.2 in
    subst (λ (x : Connect). AreConnectWords x line (key word.Connect ∷ xs)) (once (joining line d.0) c d.2)
    (refl, xs, refl, are_if_signals (d.0.0 ∷ d.0.1 ∷ []) xs (b.1 ∙ ap (λ (l : List Signal). Some l) (two_words b.0 d.0 d.1)))

module_attribute_words : (line : ℕ) (xs : List Lexeme) (f : ModuleForm) → option_map ModuleForm.attribute_in (attribute_of xs) ≡ Some f → IsModuleWords f line (key word.Attribute ∷ xs)
module_attribute_words line xs f e =
    let m = mapped ModuleForm.attribute_in (attribute_of xs) f e in
    subst (λ (g : ModuleForm). IsModuleWords g line (key word.Attribute ∷ xs)) m.2 (ap (λ l. key word.Attribute ∷ l) (attribute_words xs m.0 m.1))

module_parameter_words : (line : ℕ) (xs : List Lexeme) (f : ModuleForm) → option_map ModuleForm.parameter (module_parameter_of line xs) ≡ Some f → IsModuleWords f line (key word.Parameter ∷ xs)
module_parameter_words line xs f e =
    let m = mapped ModuleForm.parameter (module_parameter_of line xs) f e in
    subst (λ (g : ModuleForm). IsModuleWords g line (key word.Parameter ∷ xs)) m.2 (parameter_words line xs m.0 m.1)

module_wire_words : (line : ℕ) (xs : List Lexeme) (f : ModuleForm) → option_map ModuleForm.wire (wire_of xs) ≡ Some f → IsModuleWords f line (key word.Wire ∷ xs)
module_wire_words line xs f e =
    let m = mapped ModuleForm.wire (wire_of xs) f e in
    subst (λ (g : ModuleForm). IsModuleWords g line (key word.Wire ∷ xs)) m.2 (wire_words m.0 xs m.1)

module_cell_words : (line : ℕ) (xs : List Lexeme) (f : ModuleForm) → cell_of xs ≡ Some f → IsModuleWords f line (key word.Cell ∷ xs)
module_cell_words line (id kind ∷ id name ∷ []) f e = subst (λ (g : ModuleForm). IsModuleWords g line (key word.Cell ∷ id kind ∷ id name ∷ [])) (once (ModuleForm.cell_begins kind name) f e) refl
module_cell_words line xs f e = absurd cc

module_connect_words : (line : ℕ) (xs : List Lexeme) (f : ModuleForm) → option_map ModuleForm.connect (connect_of line xs) ≡ Some f → IsModuleWords f line (key word.Connect ∷ xs)
module_connect_words line xs f e =
    let m = mapped ModuleForm.connect (connect_of line xs) f e in
    subst (λ (g : ModuleForm). IsModuleWords g line (key word.Connect ∷ xs)) m.2 (connect_words line xs m.0 m.1)

module_end_words : (line : ℕ) (xs : List Lexeme) (f : ModuleForm) → option_map (λ _. ModuleForm.ends) (end_of xs) ≡ Some f → IsModuleWords f line (key word.End ∷ xs)
module_end_words line [] f e = subst (λ (g : ModuleForm). IsModuleWords g line (key word.End ∷ [])) (once ModuleForm.ends f e) refl
module_end_words line (x ∷ xs) f e = absurd cc

module_words : (line : ℕ) (xs : List Lexeme) (f : ModuleForm) → module_form_of line xs ≡ Some f → IsModuleWords f line xs
module_words line (key word.Attribute ∷ xs) f e = module_attribute_words line xs f e
module_words line (key word.Parameter ∷ xs) f e = module_parameter_words line xs f e
module_words line (key word.Wire ∷ xs) f e = module_wire_words line xs f e
module_words line (key word.Cell ∷ xs) f e = module_cell_words line xs f e
module_words line (key word.Connect ∷ xs) f e = module_connect_words line xs f e
module_words line (key word.End ∷ xs) f e = module_end_words line xs f e
module_words line xs f e = absurd cc

parameter_read : (line : ℕ) (name : List ℕ) (v : Option Value) → module_parameter_of line (id name ∷ optional v) ≡ Some (parameter_with line form.Plain name v)
parameter_read line name None = refl
parameter_read line name (Some v) = refl

parameter_is : (line : ℕ) (xs : List Lexeme) (p : Parameter) → AreParameterWords p line xs → module_form_of line xs ≡ Some (ModuleForm.parameter p)
parameter_is line xs p h =
    ap (module_form_of line) h.2 ∙ ap (option_map ModuleForm.parameter) (parameter_read line p.name p.value)
    ∙ ap (λ n. Some (ModuleForm.parameter (parameter_with n form.Plain p.name p.value))) (sym h.0)
    ∙ ap (λ (k : ParameterForm). Some (ModuleForm.parameter (parameter_with p.line k p.name p.value))) (sym h.1)

connect_is : (line : ℕ) (xs : List Lexeme) (c : Connect) → AreConnectWords c line xs → module_form_of line xs ≡ Some (ModuleForm.connect c)
connect_is line xs c h =
    ap (module_form_of line) h.2
    ∙ ap (λ (o : Option (List Signal)). option_map ModuleForm.connect (o >>= λ ss. two_of ss >>= λ sides. Some (joining line sides))) (signals_if_are (c.left ∷ c.right ∷ []) h.1 h.3)
    ∙ ap (λ n. Some (ModuleForm.connect (joining n (c.left, c.right)))) (sym h.0)

pub wire_if_written : (f : WireForm) (line : ℕ) (xs : List Lexeme) → IsWireForm f xs → module_form_of line xs ≡ Some (ModuleForm.wire f)
wire_if_written f line xs h =
    ap (module_form_of line) h.written
    ∙ ap (option_map ModuleForm.wire) (wire_of_written f (flat_map option_lexemes h.options ++ id f.name ∷ []) h.options refl h.said h.port_is)

pub written_if_wire : (f : WireForm) (line : ℕ) (xs : List Lexeme) → module_form_of line xs ≡ Some (ModuleForm.wire f) → IsWireForm f xs
written_if_wire f line xs e = module_words line xs (ModuleForm.wire f) e

-- ---- wires of the tree

port_parts : (i o : Option ℕ) (p : Port) → port_said i o ≡ Some p → (input_of p ≡ i) × (output_of p ≡ o)
port_parts None None p e = subst (λ (q : Port). (input_of q ≡ None) × (output_of q ≡ None)) (once port.Inner p e) (refl, refl)
port_parts (Some n) None p e = subst (λ (q : Port). (input_of q ≡ Some n) × (output_of q ≡ None)) (once (port.Input n) p e) (refl, refl)
port_parts None (Some n) p e = subst (λ (q : Port). (input_of q ≡ None) × (output_of q ≡ Some n)) (once (port.Output n) p e) (refl, refl)
port_parts (Some n) (Some m) p e = absurd cc

port_back : (p : Port) → port_said (input_of p) (output_of p) ≡ Some p
port_back port.Inner = refl
port_back (port.Input n) = refl
port_back (port.Output n) = refl

abbrev made : ℕ → ℤ → Option ℕ → Option ℕ → Bool → Bool → Bool → Options
made width offset input output inout upto signed = record { width = width; offset = offset; input = input; output = output; inout = inout; upto = upto; signed = signed }

same_made : (o : Options) (width : ℕ) (offset : ℤ) (input output : Option ℕ) (inout upto signed : Bool)
    → width ≡ o.width → offset ≡ o.offset → input ≡ o.input → output ≡ o.output → inout ≡ o.inout → upto ≡ o.upto → signed ≡ o.signed → made width offset input output inout upto signed ≡ o
same_made o width offset input output inout upto signed a b c d e f g =
    ap (λ x. made x offset input output inout upto signed) a
    ∙ ap (λ x. made o.width x input output inout upto signed) b
    ∙ ap (λ x. made o.width o.offset x output inout upto signed) c
    ∙ ap (λ x. made o.width o.offset o.input x inout upto signed) d
    ∙ ap (λ x. made o.width o.offset o.input o.output x upto signed) e
    ∙ ap (λ x. made o.width o.offset o.input o.output o.inout x signed) f
    ∙ ap (λ x. made o.width o.offset o.input o.output o.inout o.upto x) g

form_of_wire : (w : Wire) (xs : List Lexeme) → IsWire w xs → IsWireForm (wire_form w) xs
form_of_wire w xs h =
    let p = port_parts (options_said h.options).input (options_said h.options).output w.port (sym h.port_is) in
    record {
      options = h.options;
      written = h.written;
      said = same_made (options_said h.options) w.width w.offset (input_of w.port) (output_of w.port) false w.upto w.signed h.width_said h.offset_said p.0 p.1 (sym h.supported) h.upto_said h.signed_said;
      port_is = port_back w.port;
    }

wire_of_form : (w : Wire) (xs : List Lexeme) → IsWireForm (wire_form w) xs → IsWire w xs
wire_of_form w xs h =
    record {
      options = h.options;
      written = h.written;
      supported = sym (ap (λ (o : Options). o.inout) h.said);
      width_said = ap (λ (o : Options). o.width) h.said;
      offset_said = ap (λ (o : Options). o.offset) h.said;
      port_is = sym h.port_is ∙ ap (λ (o : Options). port_said o.input o.output) h.said;
      upto_said = ap (λ (o : Options). o.upto) h.said;
      signed_said = ap (λ (o : Options). o.signed) h.said;
    }

pub is_module_statement : (s : Statement) (f : ModuleForm) (line : ℕ) (xs : List Lexeme) → module_form s ≡ Some f → IsStatement s line xs ↔ (IsOnLine s line × (module_form_of line xs ≡ Some f))
is_module_statement (Statement.attribute a) f line xs e = (λ h. (tt, ap (module_form_of line) h ∙ e), λ p. module_words line xs (ModuleForm.attribute_in a) (p.1 ∙ sym e))
is_module_statement (Statement.parameter q) f line xs e = (λ h. (h.0, parameter_is line xs q h ∙ e), λ p. module_words line xs (ModuleForm.parameter q) (p.1 ∙ sym e))
is_module_statement (Statement.wire w) f line xs e =
    (λ h. (h.0, wire_if_written (wire_form w) line xs (form_of_wire w xs h.1) ∙ e), λ p. (p.0, wire_of_form w xs (module_words line xs (ModuleForm.wire (wire_form w)) (p.1 ∙ sym e))))
is_module_statement (Statement.cell c) f line xs e = (λ h. (h.0, ap (module_form_of line) h.1 ∙ e), λ p. (p.0, module_words line xs (ModuleForm.cell_begins c.kind c.name) (p.1 ∙ sym e)))
is_module_statement (Statement.connect c) f line xs e = (λ h. (h.0, connect_is line xs c h ∙ e), λ p. module_words line xs (ModuleForm.connect c) (p.1 ∙ sym e))
is_module_statement Statement.ends f line xs e = (λ h. (tt, ap (module_form_of line) h ∙ e), λ p. module_words line xs ModuleForm.ends (p.1 ∙ sym e))
is_module_statement s f line xs e = absurd cc

-- ---- in a cell

abbrev AreCellParameterWords : Parameter → ℕ → List Lexeme → Type 0
AreCellParameterWords p line xs = (p.line ≡ line) × (v : Value) × (p.value ≡ Some v) × (xs ≡ key word.Parameter ∷ (form_lexemes p.form ++ id p.name ∷ constant v ∷ []))

abbrev IsCellWords : CellForm → ℕ → List Lexeme → Type 0
IsCellWords (CellForm.cell_parameter p) line xs = AreCellParameterWords p line xs
IsCellWords (CellForm.port_connect port s) line xs = (signals : List Lexeme) × (xs ≡ key word.Connect ∷ id port ∷ signals) × AreSignals (s ∷ []) signals
IsCellWords CellForm.cell_ends line xs = xs ≡ key word.End ∷ []

form_words : (xs : List Lexeme) → xs ≡ form_lexemes (parameter_form_of xs).0 ++ (parameter_form_of xs).1
form_words (key word.Signed ∷ xs) = refl
form_words (key word.Real ∷ xs) = refl
form_words xs = refl

cell_parameter_words : (line : ℕ) (xs : List Lexeme) (p : Parameter) → cell_parameter_of line xs ≡ Some p → AreCellParameterWords p line (key word.Parameter ∷ xs)
cell_parameter_words line xs p e =
    let k : ParameterForm = (parameter_form_of xs).0 in
    let b = bound (attribute_of (parameter_form_of xs).1) (λ (a : Attribute). Some (parameter_with line (parameter_form_of xs).0 a.name (Some a.value))) p e in
    subst (λ (q : Parameter). AreCellParameterWords q line (key word.Parameter ∷ xs)) (once (parameter_with line (parameter_form_of xs).0 b.0.name (Some b.0.value)) p b.2)
    (refl, b.0.value, refl, ap (λ l. key word.Parameter ∷ l) (form_words xs ∙ ap (λ l. form_lexemes (parameter_form_of xs).0 ++ l) (attribute_words (parameter_form_of xs).1 b.0 b.1)))

port_words : (line : ℕ) (xs : List Lexeme) (f : CellForm) → port_connect_of xs ≡ Some f → IsCellWords f line (key word.Connect ∷ xs)
port_words line (id name ∷ xs) f e =
    let b = bound (only_signal xs) (λ s. Some (CellForm.port_connect name s)) f e in
    let d = bound (signals_of xs) one_of b.0 b.1 in
    subst (λ (g : CellForm). IsCellWords g line (key word.Connect ∷ id name ∷ xs)) (once (CellForm.port_connect name b.0) f b.2)
    (xs, refl, are_if_signals (b.0 ∷ []) xs (d.1 ∙ ap (λ (l : List Signal). Some l) (one_words d.0 b.0 d.2)))
port_words line xs f e = absurd cc

cell_parameter_form_words : (line : ℕ) (xs : List Lexeme) (f : CellForm) → option_map CellForm.cell_parameter (cell_parameter_of line xs) ≡ Some f → IsCellWords f line (key word.Parameter ∷ xs)
cell_parameter_form_words line xs f e =
    let m = mapped CellForm.cell_parameter (cell_parameter_of line xs) f e in
    subst (λ (g : CellForm). IsCellWords g line (key word.Parameter ∷ xs)) m.2 (cell_parameter_words line xs m.0 m.1)

cell_end_words : (line : ℕ) (xs : List Lexeme) (f : CellForm) → option_map (λ _. CellForm.cell_ends) (end_of xs) ≡ Some f → IsCellWords f line (key word.End ∷ xs)
cell_end_words line [] f e = subst (λ (g : CellForm). IsCellWords g line (key word.End ∷ [])) (once CellForm.cell_ends f e) refl
cell_end_words line (x ∷ xs) f e = absurd cc

cell_words : (line : ℕ) (xs : List Lexeme) (f : CellForm) → cell_form_of line xs ≡ Some f → IsCellWords f line xs
cell_words line (key word.Connect ∷ xs) f e = port_words line xs f e
cell_words line (key word.Parameter ∷ xs) f e = cell_parameter_form_words line xs f e
cell_words line (key word.End ∷ xs) f e = cell_end_words line xs f e
cell_words line xs f e = absurd cc

cell_parameter_read : (line : ℕ) (k : ParameterForm) (name : List ℕ) (v : Value) → cell_parameter_of line (form_lexemes k ++ id name ∷ constant v ∷ []) ≡ Some (parameter_with line k name (Some v))
cell_parameter_read line form.Plain name v = refl
cell_parameter_read line form.Signed name v = refl
cell_parameter_read line form.Real name v = refl

cell_parameter_is : (line : ℕ) (xs : List Lexeme) (p : Parameter) → AreCellParameterWords p line xs → cell_form_of line xs ≡ Some (CellForm.cell_parameter p)
cell_parameter_is line xs p h =
    ap (cell_form_of line) h.3 ∙ ap (option_map CellForm.cell_parameter) (cell_parameter_read line p.form p.name h.1)
    ∙ ap (λ n. Some (CellForm.cell_parameter (parameter_with n p.form p.name (Some h.1)))) (sym h.0)
    ∙ ap (λ (v : Option Value). Some (CellForm.cell_parameter (parameter_with p.line p.form p.name v))) (sym h.2)

port_is : (line : ℕ) (xs : List Lexeme) (name : List ℕ) (s : Signal) (signals : List Lexeme) → xs ≡ key word.Connect ∷ id name ∷ signals → AreSignals (s ∷ []) signals → cell_form_of line xs ≡ Some (CellForm.port_connect name s)
port_is line xs name s signals is h =
    ap (cell_form_of line) is
    ∙ ap (λ (o : Option (List Signal)). (o >>= one_of) >>= λ x. Some (CellForm.port_connect name x)) (signals_if_are (s ∷ []) signals h)

pub is_cell_statement : (s : Statement) (f : CellForm) (line : ℕ) (xs : List Lexeme) → cell_form s ≡ Some f → IsStatement s line xs ↔ (IsOnLine s line × (cell_form_of line xs ≡ Some f))
is_cell_statement (Statement.cell_parameter q) f line xs e = (λ h. (h.0, cell_parameter_is line xs q h ∙ e), λ p. cell_words line xs (CellForm.cell_parameter q) (p.1 ∙ sym e))
is_cell_statement (Statement.port_connect c) f line xs e =
    (λ h. (h.0, port_is line xs c.port c.signal h.1 h.2 h.3 ∙ e), λ p. let w = cell_words line xs (CellForm.port_connect c.port c.signal) (p.1 ∙ sym e) in (p.0, w.0, w.1, w.2))
is_cell_statement Statement.ends f line xs e = (λ h. (tt, ap (cell_form_of line) h ∙ e), λ p. cell_words line xs CellForm.cell_ends (p.1 ∙ sym e))
is_cell_statement s f line xs e = absurd cc

-- ---- the wire that the machine makes

form_of_made : (f : WireForm) (line : ℕ) (held : List Attribute) → f.options.inout ≡ false → port_said f.options.input f.options.output ≡ Some f.port → wire_form (wire_made line held f) ≡ f
form_of_made f line held none is =
    let p = port_parts f.options.input f.options.output f.port is in
    ap (λ (o : Options). record { name = f.name; port = f.port; options = o })
    (same_made f.options f.options.width f.options.offset (input_of f.port) (output_of f.port) false f.options.upto f.options.signed refl refl p.0 p.1 (sym none) refl refl)

pub wire_statement : (f : WireForm) (line : ℕ) (xs : List Lexeme) (held : List Attribute) → module_form_of line xs ≡ Some (ModuleForm.wire f) → f.options.inout ≡ false → IsStatement (Statement.wire (wire_made line held f)) line xs
wire_statement f line xs held e none =
    (is_module_statement (Statement.wire (wire_made line held f)) (ModuleForm.wire f) line xs
    (ap (λ (g : WireForm). Some (ModuleForm.wire g)) (form_of_made f line held none (written_if_wire f line xs e).port_is))).1 (refl, e)

-- ---- the line that a form has

pub parameter_line : (p : Parameter) (line : ℕ) (xs : List Lexeme) → module_form_of line xs ≡ Some (ModuleForm.parameter p) → p.line ≡ line
parameter_line p line xs e = (module_words line xs (ModuleForm.parameter p) e).0

pub connect_line : (c : Connect) (line : ℕ) (xs : List Lexeme) → module_form_of line xs ≡ Some (ModuleForm.connect c) → c.line ≡ line
connect_line c line xs e = (module_words line xs (ModuleForm.connect c) e).0

pub cell_parameter_line : (p : Parameter) (line : ℕ) (xs : List Lexeme) → cell_form_of line xs ≡ Some (CellForm.cell_parameter p) → p.line ≡ line
cell_parameter_line p line xs e = (cell_words line xs (CellForm.cell_parameter p) e).0

-- ---- each form that is found is one of a statement

pub some_file_statement : (f : FileForm) (line : ℕ) (xs : List Lexeme) → file_form_of xs ≡ Some f → (s : Statement) × (file_form s ≡ Some f) × IsStatement s line xs
some_file_statement (FileForm.autoidx z) line xs e = (Statement.autoidx z, refl, file_words xs (FileForm.autoidx z) e)
some_file_statement (FileForm.attribute a) line xs e = (Statement.attribute a, refl, file_words xs (FileForm.attribute a) e)
some_file_statement (FileForm.begins name) line xs e = (Statement.begins (module_begun line name []), refl, (refl, file_words xs (FileForm.begins name) e))

pub some_module_statement : (f : ModuleForm) (line : ℕ) (xs : List Lexeme) → ((w : WireForm) → f ≡ ModuleForm.wire w → w.options.inout ≡ false) → module_form_of line xs ≡ Some f → (s : Statement) × (module_form s ≡ Some f) × IsStatement s line xs
some_module_statement (ModuleForm.attribute_in a) line xs none e = (Statement.attribute a, refl, module_words line xs (ModuleForm.attribute_in a) e)
some_module_statement (ModuleForm.parameter p) line xs none e = (Statement.parameter p, refl, module_words line xs (ModuleForm.parameter p) e)
some_module_statement (ModuleForm.wire w) line xs none e =
    (Statement.wire (wire_made line [] w), ap (λ (g : WireForm). Some (ModuleForm.wire g)) (form_of_made w line [] (none w refl) (written_if_wire w line xs e).port_is), wire_statement w line xs [] e (none w refl))
some_module_statement (ModuleForm.cell_begins kind name) line xs none e = (Statement.cell (cell_begun line kind name []), refl, (refl, module_words line xs (ModuleForm.cell_begins kind name) e))
some_module_statement (ModuleForm.connect c) line xs none e = (Statement.connect c, refl, module_words line xs (ModuleForm.connect c) e)
some_module_statement ModuleForm.ends line xs none e = (Statement.ends, refl, module_words line xs ModuleForm.ends e)

pub some_cell_statement : (f : CellForm) (line : ℕ) (xs : List Lexeme) → cell_form_of line xs ≡ Some f → (s : Statement) × (cell_form s ≡ Some f) × IsStatement s line xs
some_cell_statement (CellForm.cell_parameter p) line xs e = (Statement.cell_parameter p, refl, cell_words line xs (CellForm.cell_parameter p) e)
some_cell_statement (CellForm.port_connect name x) line xs e =
    let w = cell_words line xs (CellForm.port_connect name x) e in (Statement.port_connect (connect_made line name x), refl, (refl, w.0, w.1, w.2))
some_cell_statement CellForm.cell_ends line xs e = (Statement.ends, refl, cell_words line xs CellForm.cell_ends e)

-- ---- one form at a place

pub one_file_form : (s t : Statement) (f g : FileForm) (line : ℕ) (xs : List Lexeme) → file_form s ≡ Some f → file_form t ≡ Some g → IsStatement s line xs → IsStatement t line xs → f ≡ g
one_file_form s t f g line xs a b h k = once f g (sym ((is_file_statement s f line xs a).0 h).1 ∙ ((is_file_statement t g line xs b).0 k).1)

pub one_module_form : (s t : Statement) (f g : ModuleForm) (line : ℕ) (xs : List Lexeme) → module_form s ≡ Some f → module_form t ≡ Some g → IsStatement s line xs → IsStatement t line xs → f ≡ g
one_module_form s t f g line xs a b h k = once f g (sym ((is_module_statement s f line xs a).0 h).1 ∙ ((is_module_statement t g line xs b).0 k).1)

pub one_cell_form : (s t : Statement) (f g : CellForm) (line : ℕ) (xs : List Lexeme) → cell_form s ≡ Some f → cell_form t ≡ Some g → IsStatement s line xs → IsStatement t line xs → f ≡ g
one_cell_form s t f g line xs a b h k = once f g (sym ((is_cell_statement s f line xs a).0 h).1 ∙ ((is_cell_statement t g line xs b).0 k).1)
