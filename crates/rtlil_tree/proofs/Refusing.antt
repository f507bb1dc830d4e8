-- Lines can go on exactly where the reader meets no error, and its first error is the refusal of the first bad statement.
use Rattle.std.proofs.Common.{◌≡◌, ℕ, Bool, true, false, cond, List, [], ◌∷◌, ◌++◌, filter, refl, ap, ◌∙◌, sym, subst, ⊎_elim, ◌⊎◌, inl, inr, Option, Some, None, option_map, Result, Ok, Err}
use Rattle.std.proofs.lemmas.List.{append-nil}
use Rattle.std.proofs.lemmas.Bool.{cases_Bool, cond-true, cond-false}
use Rattle.circuit_types.specs.declared.refusal.Refusal.{Refusal}
use Rattle.circuit_types.specs.declared.refusal.Refusal.TheVariants.{BadForm, UnsupportedStatement}
use Rattle.circuit_types.specs.declared.tree.Tree.{Tree}
use Rattle.circuit_types.specs.declared.tree.Module.{Module}
use Rattle.circuit_types.specs.declared.tree.Attribute.{Attribute}
use Rattle.circuit_types.specs.declared.tree.Wire.{Wire}
use Rattle.circuit_types.specs.declared.tree.Cell.{Cell}
use Rattle.circuit_types.specs.declared.tree.Port.{Port}
use Rattle.rtlil_lex.specs.declared.token.TokenKind.{TokenKind}
use Rattle.rtlil_lex.specs.declared.token.TokenKind.TheVariants as kind
use Rattle.rtlil_tree.specs.declared.keyword.Keyword.{Keyword}
use Rattle.rtlil_tree.specs.declared.keyword.Keyword.TheVariants as word
use Rattle.rtlil_tree.specs.declared.options.WireOption.{WireOption}
use Rattle.rtlil_tree.specs.declared.options.Options.{Options}
use Rattle.rtlil_tree.specs.Lexemes.{Lexeme, key, Spelled, spelling, Says, AreSaid}
use Rattle.rtlil_tree.specs.Lines.{Line}
use Rattle.rtlil_tree.specs.Said.{◌>>=◌, keyword_of, lexemes_of}
use Rattle.rtlil_tree.specs.Statements.{wire, IsWire, no_options, options_said, port_said, wire_lexemes}
use Rattle.rtlil_tree.specs.Forms as form
use Rattle.rtlil_tree.specs.Forms.{FileForm, ModuleForm, CellForm, WireForm, options_from, wire_of, file_form_of, module_form_of, cell_form_of}
use Rattle.rtlil_tree.specs.Names.{is_among, wire_names, cell_names, port_names, module_names}
use Rattle.rtlil_tree.specs.Machine.{State, file, inside, within, start, has_some, bad_form, unsupported, unless, wire_made, file_step, wire_step, module_step, cell_step, step, is_foreign, is_foreign_word, is_foreign_token, finish, run}
use Rattle.rtlil_tree.specs.Text.{IsWritten}
use Rattle.rtlil_tree.specs.Refusals.{CanGoOn, IsFirstBad, BeginsWith, IsModulePlace, is_supported, IsInoutWire, IsUnsupported, HasBadStatement, IsCutShort}
use Rattle.rtlil_tree.specs.Placed.{AreFormed, IsWireForm}
use Rattle.rtlil_tree.proofs.Optioning.{options_read}
use Rattle.rtlil_tree.proofs.Running.{run_end, after, after_end, after_one, state_behind, run_after, run_stop, run_err, after_more, new_wire, foreign_stops}
use Rattle.rtlil_tree.proofs.Running.{AllFormed}
use Rattle.rtlil_tree.proofs.Binding.{bound}
use Rattle.rtlil_tree.proofs.WordLaws.{said_if_says, says_if_said, said_if_lexemes, lexemes_if_said, written_if_wire, without_inout, supported_said}
use Rattle.rtlil_tree.proofs.Distinct.{tree_of}
use Rattle.rtlil_tree.proofs.Sounding.{sound}
use Rattle.rtlil_tree.proofs.Completing.{complete, foreign_said, wire_steps}
use Rattle.rtlil_tree.proofs.Fresh.{Completes, completes, completed, fresh_new, fresh, some_wire, some_wire_written, some_wire_formed, some_wire_begins, wire_with, wire_formed}

-- ---- going on

all_both : (xs ys : List Line) → AllFormed xs → AllFormed ys → AllFormed (xs ++ ys)
all_both [] ys h g = g
all_both (x ∷ xs) ys h g = (h.0, all_both xs ys h.1 g)

pub goes_on_if_ok : (lines : List Line) (s : State) → AllFormed lines → after start lines ≡ Ok s → CanGoOn lines
goes_on_if_ok lines s formed h =
    let c : Completes s = completes s in
    record {
      more = c.lines;
      tree = tree_of c.modules;
      text = sound 0 (lines ++ c.lines) (tree_of c.modules) (all_both lines c.lines formed c.formed) (run_after 0 start s lines c.lines h ∙ completed 0 s c);
    }

ok_or_not : (lines more : List Line) (t : Tree) (x : Result State Refusal) → after start lines ≡ x → run 0 start (lines ++ more) ≡ Ok t → (s : State) × (after start lines ≡ Ok s)
ok_or_not lines more t (Ok s) h r = (s, h)
ok_or_not lines more t (Err f) h r = let none = run_stop 0 start f lines more h in absurd cc

pub ok_if_goes_on : (lines : List Line) → CanGoOn lines → (s : State) × (after start lines ≡ Ok s)
ok_if_goes_on lines g = ok_or_not lines g.more g.tree (after start lines) refl (complete 0 (lines ++ g.more) g.tree g.text)

-- where the lines can go on with one more
step_if_goes_on : (lines : List Line) (line : Line) (s : State) → after start lines ≡ Ok s → CanGoOn (lines ++ line ∷ []) → (u : State) × (step s line ≡ Ok u)
step_if_goes_on lines line s h g =
    let u = ok_if_goes_on (lines ++ line ∷ []) g in
    (u.0, sym (after_more start s lines line h) ∙ u.1)

goes_on_if_steps : (lines : List Line) (line : Line) (s u : State) → AllFormed lines → AreFormed line.tokens → after start lines ≡ Ok s → step s line ≡ Ok u → CanGoOn (lines ++ line ∷ [])
goes_on_if_steps lines line s u formed fits h g = goes_on_if_ok (lines ++ line ∷ []) u (all_both lines (line ∷ []) formed (fits, tt)) (after_more start s lines line h ∙ g)

-- ---- which error a step answers

unless_err : (bad : Bool) (line : ℕ) (s : State) (r : Refusal) → unless bad line s ≡ Err r → r ≡ BadForm line
unless_err true line s r h = cc
unless_err false line s r h = absurd cc

file_err : (ms : List Module) (held : List Attribute) (line : ℕ) (f : Option FileForm) (r : Refusal) → file_step ms held line f ≡ Err r → r ≡ BadForm line
file_err ms held line None r h = cc
file_err ms held line (Some (form.autoidx z)) r h = unless_err (has_some held) line _ r h
file_err ms held line (Some (form.attribute a)) r h = absurd cc
file_err ms held line (Some (form.begins name)) r h = unless_err (is_among name (module_names ms)) line _ r h

cell_err : (ms : List Module) (m : Module) (c : Cell) (line : ℕ) (f : Option CellForm) (r : Refusal) → cell_step ms m c line f ≡ Err r → r ≡ BadForm line
cell_err ms m c line None r h = cc
cell_err ms m c line (Some (form.cell_parameter p)) r h = absurd cc
cell_err ms m c line (Some (form.port_connect port signal)) r h = unless_err (is_among port (port_names c.connects)) line _ r h
cell_err ms m c line (Some form.cell_ends) r h = absurd cc

-- a wire with `inout` whose name is new
pub record IsNewInout (m : Module) (f : Option ModuleForm) : Type 0 where
  pub w : WireForm
  pub is : f ≡ Some (form.wire w)
  pub inout : w.options.inout ≡ true
  pub new : is_among w.name (wire_names m.items) ≡ false

abbrev IsStopped : Module → ℕ → Option ModuleForm → Refusal → Type 0
IsStopped m line f r = (r ≡ BadForm line) ⊎ ((r ≡ UnsupportedStatement line) × IsNewInout m f)

wire_err : (ms : List Module) (m : Module) (held : List Attribute) (line : ℕ) (w : WireForm) (again inout : Bool) (r : Refusal) (s : State) → is_among w.name (wire_names m.items) ≡ again → w.options.inout ≡ inout
    → cond again (bad_form line) (cond inout (unsupported line) (Ok s)) ≡ Err r → IsStopped m line (Some (form.wire w)) r
wire_err ms m held line w true inout r s n i h = inl cc
wire_err ms m held line w false true r s n i h = inr (cc, record { w = w; is = refl; inout = i; new = n })
wire_err ms m held line w false false r s n i h = absurd cc

module_err : (ms : List Module) (m : Module) (held : List Attribute) (line : ℕ) (f : Option ModuleForm) (r : Refusal) → module_step ms m held line f ≡ Err r → IsStopped m line f r
module_err ms m held line None r h = inl cc
module_err ms m held line (Some (form.attribute_in a)) r h = absurd cc
module_err ms m held line (Some (form.parameter p)) r h = inl (unless_err (has_some held) line _ r h)
module_err ms m held line (Some (form.wire w)) r h = wire_err ms m held line w (is_among w.name (wire_names m.items)) w.options.inout r _ refl refl h
module_err ms m held line (Some (form.cell_begins kind name)) r h = inl (unless_err (is_among name (cell_names m.items)) line _ r h)
module_err ms m held line (Some (form.connect c)) r h = inl (unless_err (has_some held) line _ r h)
module_err ms m held line (Some form.ends) r h = inl (unless_err (has_some held) line _ r h)

-- a foreign word, or what the form is refused for
foreign_err : (foreign : Bool) (line : ℕ) (x : Result State Refusal) (r : Refusal) → cond foreign (unsupported line) x ≡ Err r → ((r ≡ UnsupportedStatement line) × (foreign ≡ true)) ⊎ (x ≡ Err r)
foreign_err true line x r h = inl (cc, refl)
foreign_err false line x r h = inr h

pub step_err : (s : State) (line : Line) (r : Refusal) → step s line ≡ Err r → (r ≡ BadForm line.number) ⊎ (r ≡ UnsupportedStatement line.number)
step_err (file ms held) line r h = inl (file_err ms held line.number (lexemes_of line.tokens >>= file_form_of) r h)
step_err (inside ms m held) line r h =
    ⊎_elim
    (λ foreign. inr foreign.0)
    (λ x. ⊎_elim (λ bad. inl bad) (λ p. inr p.0) (module_err ms m held line.number (lexemes_of line.tokens >>= module_form_of line.number) r x))
    (foreign_err (is_foreign line.tokens) line.number _ r h)
step_err (within ms m c) line r h = inl (cell_err ms m c line.number (lexemes_of line.tokens >>= cell_form_of line.number) r h)

-- ---- what the reader refuses as unsupported is so

wire_could : (before : List Line) (ms : List Module) (m : Module) (held : List Attribute) → AllFormed before → after start before ≡ Ok (inside ms m held) → CanGoOn (before ++ some_wire (wire_names m.items) ∷ [])
wire_could before ms m held formed h =
    let names = wire_names m.items in
    goes_on_if_steps before (some_wire names) _ _ formed (some_wire_formed names) h
    (wire_steps ms m (wire_with (fresh names) held) (some_wire names) (fresh_new names) (some_wire_written names held))

module_place : (before : List Line) (ms : List Module) (m : Module) (held : List Attribute) → AllFormed before → after start before ≡ Ok (inside ms m held) → IsModulePlace before
module_place before ms m held formed h = record {
  some = some_wire (wire_names m.items);
  is_wire = some_wire_begins (wire_names m.items);
  could = wire_could before ms m held formed h;
}

one_of_two : (w : Keyword) (t : Spelled) → is_foreign_word (Some w) ≡ true → Says (key w) t → Says (key word.Memory) t ⊎ Says (key word.Process) t
one_of_two word.Memory t f h = inl h
one_of_two word.Process t f h = inr h
one_of_two w t f h = absurd cc

begins_foreign : (ts : List Spelled) → AreFormed ts → is_foreign ts ≡ true → BeginsWith (key word.Memory) ts ⊎ BeginsWith (key word.Process) ts
begins_foreign [] formed h = absurd cc
begins_foreign (t ∷ ts) formed h =
    let f = foreign_said t.kind t.text h in
    one_of_two f.0 t f.2 (says_if_said (key f.0) t formed.0 f.1)

-- ---- a wire without its `inout`

inout_wire : (w : WireForm) (line : ℕ) (held : List Attribute) (xs : List Lexeme) (f : IsWireForm w xs) → IsWire (wire_made line held w) (wire_lexemes (filter is_supported f.options) w.name)
inout_wire w line held xs f =
    let same : options_said (filter is_supported f.options) ≡ record w.options { inout = false } = supported_said f.options ∙ ap (λ (o : Options). record o { inout = false }) (sym f.said) in
    record {
      options = filter is_supported f.options;
      written = refl;
      supported = ap (λ (o : Options). o.inout) same;
      width_said = ap (λ (o : Options). o.width) (sym same);
      offset_said = ap (λ (o : Options). o.offset) (sym same);
      port_is = sym f.port_is ∙ ap (λ (o : Options). port_said o.input o.output) (sym same);
      upto_said = ap (λ (o : Options). o.upto) (sym same);
      signed_said = ap (λ (o : Options). o.signed) (sym same);
    }

inout_is : (before : List Line) (bad : Line) (ms : List Module) (m : Module) (held : List Attribute) → AllFormed before → AreFormed bad.tokens → after start before ≡ Ok (inside ms m held)
    → IsNewInout m (lexemes_of bad.tokens >>= module_form_of bad.number) → IsInoutWire before bad
inout_is before bad ms m held formed fits h n =
    let b = bound (lexemes_of bad.tokens) (module_form_of bad.number) (form.wire n.w) n.is in
    let f : IsWireForm n.w b.0 = written_if_wire n.w bad.number b.0 b.2 in
    let said : AreSaid (wire_lexemes f.options n.w.name) bad.tokens = subst (λ (l : List Lexeme). AreSaid l bad.tokens) f.written (said_if_lexemes b.0 bad.tokens fits b.1) in
    let us = without_inout f.options n.w.name bad.tokens said in
    let other : Line = record { number = 0; tokens = us.0 } in
    let v : Wire = wire_made 0 held n.w in
    let written : IsWritten (wire v) other = record { lexemes = wire_lexemes (filter is_supported f.options) n.w.name; said = us.1; form = (refl, inout_wire n.w 0 held b.0 f) } in
    record {
      options = f.options;
      name = n.w.name;
      written = said;
      has_inout = sym (ap (λ (o : Options). o.inout) f.said) ∙ n.inout;
      without = other;
      without_written = us.1;
      could = goes_on_if_steps before other _ _ formed (wire_formed (filter is_supported f.options) n.w.name us.0 us.1) h (wire_steps ms m v other n.new written);
    }

unsupported_in : (before : List Line) (bad : Line) (ms : List Module) (m : Module) (held : List Attribute) → AllFormed before → AreFormed bad.tokens → after start before ≡ Ok (inside ms m held)
    → step (inside ms m held) bad ≡ Err (UnsupportedStatement bad.number) → IsUnsupported before bad
unsupported_in before bad ms m held formed fits h e =
    ⊎_elim
    (λ foreign. inl (module_place before ms m held formed h, begins_foreign bad.tokens fits foreign.1))
    (λ x. ⊎_elim (λ other. absurd cc) (λ p. inr (inout_is before bad ms m held formed fits h p.1)) (module_err ms m held bad.number (lexemes_of bad.tokens >>= module_form_of bad.number) (UnsupportedStatement bad.number) x))
    (foreign_err (is_foreign bad.tokens) bad.number _ (UnsupportedStatement bad.number) e)

pub unsupported_if : (before : List Line) (bad : Line) (s : State) → AllFormed before → AreFormed bad.tokens → after start before ≡ Ok s → step s bad ≡ Err (UnsupportedStatement bad.number) → IsUnsupported before bad
unsupported_if before bad (file ms held) formed fits h e =
    let other = file_err ms held bad.number (lexemes_of bad.tokens >>= file_form_of) (UnsupportedStatement bad.number) e in absurd cc
unsupported_if before bad (inside ms m held) formed fits h e = unsupported_in before bad ms m held formed fits h e
unsupported_if before bad (within ms m c) formed fits h e =
    let other = cell_err ms m c bad.number (lexemes_of bad.tokens >>= cell_form_of bad.number) (UnsupportedStatement bad.number) e in absurd cc

-- ---- what is unsupported the reader refuses so

-- a statement that begins with `wire` has a form in a module alone
wire_rest_file : (o : Option (List Lexeme)) → ((o >>= λ xs. Some (key word.Wire ∷ xs)) >>= file_form_of) ≡ None
wire_rest_file None = refl
wire_rest_file (Some xs) = refl

wire_rest_cell : (line : ℕ) (o : Option (List Lexeme)) → ((o >>= λ xs. Some (key word.Wire ∷ xs)) >>= cell_form_of line) ≡ None
wire_rest_cell line None = refl
wire_rest_cell line (Some xs) = refl

no_file_wire : (ts : List Spelled) → BeginsWith (key word.Wire) ts → (lexemes_of ts >>= file_form_of) ≡ None
unfolding lexemes_of
no_file_wire [] h = absurd h
no_file_wire (t ∷ ts) h =
    ap (λ (o : Option Lexeme). (o >>= λ x. lexemes_of ts >>= λ xs. Some (x ∷ xs)) >>= file_form_of) (said_if_says (key word.Wire) t h) ∙ wire_rest_file (lexemes_of ts)

no_cell_wire : (line : ℕ) (ts : List Spelled) → BeginsWith (key word.Wire) ts → (lexemes_of ts >>= cell_form_of line) ≡ None
unfolding lexemes_of
no_cell_wire line [] h = absurd h
no_cell_wire line (t ∷ ts) h =
    ap (λ (o : Option Lexeme). (o >>= λ x. lexemes_of ts >>= λ xs. Some (x ∷ xs)) >>= cell_form_of line) (said_if_says (key word.Wire) t h) ∙ wire_rest_cell line (lexemes_of ts)

-- the reader is in a module
pub record IsInside (s : State) : Type 0 where
  pub ms : List Module
  pub m : Module
  pub held : List Attribute
  pub is : s ≡ inside ms m held

inside_if_wire : (s u : State) (line : Line) → BeginsWith (key word.Wire) line.tokens → step s line ≡ Ok u → IsInside s
inside_if_wire (file ms held) u line h e = let none = ap (file_step ms held line.number) (no_file_wire line.tokens h) in absurd cc
inside_if_wire (inside ms m held) u line h e = record { ms = ms; m = m; held = held; is = refl }
inside_if_wire (within ms m c) u line h e = let none = ap (cell_step ms m c line.number) (no_cell_wire line.number line.tokens h) in absurd cc

foreign_if : (w : Keyword) (t : Spelled) → is_foreign_token kind.Word (spelling w) ≡ true → Says (key w) t → is_foreign_token t.kind t.text ≡ true
foreign_if w t f h = ap (λ (k : TokenKind). is_foreign_token k t.text) h.0 ∙ ap (is_foreign_token kind.Word) h.1 ∙ f

memory_foreign : is_foreign_token kind.Word (spelling word.Memory) ≡ true
unfolding keyword_of
memory_foreign = refl

process_foreign : is_foreign_token kind.Word (spelling word.Process) ≡ true
unfolding keyword_of
process_foreign = refl

is_foreign_if : (ts : List Spelled) → BeginsWith (key word.Memory) ts ⊎ BeginsWith (key word.Process) ts → is_foreign ts ≡ true
is_foreign_if [] h = absurd (⊎_elim (λ x. x) (λ x. x) h)
is_foreign_if (t ∷ ts) h = ⊎_elim (λ x. foreign_if word.Memory t memory_foreign x) (λ x. foreign_if word.Process t process_foreign x) h

refused_foreign : (before : List Line) (bad : Line) (s : State) → after start before ≡ Ok s → IsModulePlace before → BeginsWith (key word.Memory) bad.tokens ⊎ BeginsWith (key word.Process) bad.tokens
    → step s bad ≡ Err (UnsupportedStatement bad.number)
refused_foreign before bad s h place begins =
    let u = step_if_goes_on before place.some s h place.could in
    let i : IsInside s = inside_if_wire s u.0 place.some place.is_wire u.1 in
    ap (λ (x : State). step x bad) i.is ∙ cond-true (is_foreign bad.tokens) (unsupported bad.number) _ (is_foreign_if bad.tokens begins)

abbrev wire_found : Options → List ℕ → Port → ModuleForm
wire_found o name p = form.wire (record { name = name; port = p; options = o })

abbrev wire_by : Options → List ℕ → Option Port → Option ModuleForm
wire_by o name None = None
wire_by o name (Some p) = Some (wire_found o name p)

found_by : (o : Options) (name : List ℕ) (q : Option Port) → option_map form.wire (q >>= λ p. Some (record { name = name; port = p; options = o })) ≡ wire_by o name q
found_by o name None = refl
found_by o name (Some p) = refl

pub wire_reads : (options : List WireOption) (name : List ℕ) (line : ℕ) → module_form_of line (wire_lexemes options name) ≡ wire_by (options_said options) name (port_said (options_said options).input (options_said options).output)
wire_reads options name line =
    ap (λ (o : Option (Options × List ℕ)). option_map form.wire (o >>= λ w. port_said w.0.input w.0.output >>= λ p. Some (record { name = w.1; port = p; options = w.0 }))) (options_read options no_options name)
    ∙ found_by (options_said options) name (port_said (options_said options).input (options_said options).output)

-- a line that says a wire's words
wire_line_reads : (options : List WireOption) (name : List ℕ) (line : Line) (q : Option Port) → AreSaid (wire_lexemes options name) line.tokens → port_said (options_said options).input (options_said options).output ≡ q
    → (lexemes_of line.tokens >>= module_form_of line.number) ≡ wire_by (options_said options) name q
wire_line_reads options name line q h p =
    ap (λ (o : Option (List Lexeme)). o >>= module_form_of line.number) (lexemes_if_said (wire_lexemes options name) line.tokens h)
    ∙ wire_reads options name line.number
    ∙ ap (wire_by (options_said options) name) p

begins_wire : (options : List WireOption) (name : List ℕ) (ts : List Spelled) → AreSaid (wire_lexemes options name) ts → BeginsWith (key word.Wire) ts
begins_wire options name [] h = absurd h
begins_wire options name (t ∷ ts) h = h.0

not_foreign_wire : (ts : List Spelled) → BeginsWith (key word.Wire) ts → is_foreign ts ≡ false
not_foreign_wire [] h = refl
not_foreign_wire (t ∷ ts) h =
    ⊎_elim
    (λ foreign. let f = foreign_said t.kind t.text foreign in absurd (other f.0 (sym f.1 ∙ said_if_says (key word.Wire) t h) f.2))
    (λ none. none)
    (cases_Bool (is_foreign_token t.kind t.text))
  where
    other : (w : Keyword) → ◌≡◌ {A = Option Lexeme} (Some (key w)) (Some (key word.Wire)) → is_foreign_word (Some w) ≡ true → ⊥
    other w e f = let same : w ≡ word.Wire = cc in let no : is_foreign_word (Some word.Wire) ≡ true = subst (λ (k : Keyword). is_foreign_word (Some k) ≡ true) same f in cc

-- where the wire without `inout` may stand, its name is new and its port is of one direction
record IsNewName (m : Module) (name : List ℕ) (q : Option Port) : Type 0 where
  port : Port
  is : q ≡ Some port
  new : is_among name (wire_names m.items) ≡ false

new_name : (ms : List Module) (m : Module) (held : List Attribute) (line : ℕ) (o : Options) (name : List ℕ) (q : Option Port) (u : State) → module_step ms m held line (wire_by o name q) ≡ Ok u → IsNewName m name q
new_name ms m held line o name None u h = absurd cc
new_name ms m held line o name (Some p) u h =
    record { port = p; is = refl; new = (new_wire (is_among name (wire_names m.items)) line (wire_step ms m held line (record { name = name; port = p; options = o })) u h).0 }

wire_stops : (ms : List Module) (m : Module) (held : List Attribute) (line : ℕ) (w : WireForm) → is_among w.name (wire_names m.items) ≡ false → w.options.inout ≡ true → module_step ms m held line (Some (form.wire w)) ≡ Err (UnsupportedStatement line)
wire_stops ms m held line w new inout =
    cond-false (is_among w.name (wire_names m.items)) (bad_form line) (wire_step ms m held line w) new
    ∙ cond-true w.options.inout (unsupported line) _ inout

refused_at : (before : List Line) (bad : Line) (w : IsInoutWire before bad) (ms : List Module) (m : Module) (held : List Attribute) (u : State) → step (inside ms m held) w.without ≡ Ok u → step (inside ms m held) bad ≡ Err (UnsupportedStatement bad.number)
refused_at before bad w ms m held u h =
    let kept = filter is_supported w.options in
    let q = port_said (options_said w.options).input (options_said w.options).output in
    let same_port = ap (λ (o : Options). port_said o.input o.output) (supported_said w.options) in
    let reads = wire_line_reads kept w.name w.without q w.without_written same_port in
    let steps = sym (ap (module_step ms m held w.without.number) reads) ∙ (foreign_stops (is_foreign w.without.tokens) w.without.number _ u h).1 in
    let n : IsNewName m w.name q = new_name ms m held w.without.number (options_said kept) w.name q u steps in
    cond-false (is_foreign bad.tokens) (unsupported bad.number) _ (not_foreign_wire bad.tokens (begins_wire w.options w.name bad.tokens w.written))
    ∙ ap (module_step ms m held bad.number) (wire_line_reads w.options w.name bad q w.written refl ∙ ap (wire_by (options_said w.options) w.name) n.is)
    ∙ wire_stops ms m held bad.number (record { name = w.name; port = n.port; options = options_said w.options }) n.new w.has_inout

refused_inout : (before : List Line) (bad : Line) (s : State) → after start before ≡ Ok s → IsInoutWire before bad → step s bad ≡ Err (UnsupportedStatement bad.number)
refused_inout before bad s h w =
    let u = step_if_goes_on before w.without s h w.could in
    let i : IsInside s = inside_if_wire s u.0 w.without (begins_wire (filter is_supported w.options) w.name w.without.tokens w.without_written) u.1 in
    ap (λ (x : State). step x bad) i.is ∙ refused_at before bad w i.ms i.m i.held u.0 (sym (ap (λ (x : State). step x w.without) i.is) ∙ u.1)

pub refused_if : (before : List Line) (bad : Line) (s : State) → after start before ≡ Ok s → IsUnsupported before bad → step s bad ≡ Err (UnsupportedStatement bad.number)
refused_if before bad s h p = ⊎_elim (λ x. refused_foreign before bad s h x.0 x.1) (λ w. refused_inout before bad s h w) p

-- ---- the first bad statement

-- The reader goes through the lines before, and its first error is at the line behind them.
pub record Fails (s : State) (lines : List Line) (r : Refusal) : Type 0 where
  pub before : List Line
  pub bad : Line
  pub rest : List Line
  pub parts : lines ≡ before ++ bad ∷ rest
  pub reached : State
  pub reaches : after s before ≡ Ok reached
  pub stops : step reached bad ≡ Err r

fails_later : (s u : State) (line : Line) (lines : List Line) (r : Refusal) → step s line ≡ Ok u → Fails u lines r → Fails s (line ∷ lines) r
fails_later s u line lines r h f = record {
  before = line ∷ f.before;
  bad = f.bad;
  rest = f.rest;
  parts = ap (λ (l : List Line). line ∷ l) f.parts;
  reached = f.reached;
  reaches = after_one s line f.before ∙ ap (state_behind f.before) h ∙ f.reaches;
  stops = f.stops;
}

fails_here : (s : State) (line : Line) (lines : List Line) (x : Result State Refusal) (r : Refusal) → step s line ≡ x → state_behind lines x ≡ Err r → ((u : State) → after u lines ≡ Err r → Fails u lines r) → Fails s (line ∷ lines) r
fails_here s line lines (Ok u) r h e more = fails_later s u line lines r h (more u e)
fails_here s line lines (Err f) r h e more =
    let same : f ≡ r = cc in
    record { before = []; bad = line; rest = lines; parts = refl; reached = s; reaches = after_end s; stops = h ∙ ap (λ (y : Refusal). Err y) same }

pub fails : (s : State) (lines : List Line) (r : Refusal) → after s lines ≡ Err r → Fails s lines r
fails s [] r h = let none = sym (after_end s) ∙ h in absurd cc
fails s (line ∷ lines) r h = fails_here s line lines (step s line) r refl (sym (after_one s line lines) ∙ h) (λ u. fails u lines r)

all_left : (xs ys : List Line) → AllFormed (xs ++ ys) → AllFormed xs
all_left [] ys h = tt
all_left (x ∷ xs) ys h = (h.0, all_left xs ys h.1)

all_right : (xs ys : List Line) → AllFormed (xs ++ ys) → AllFormed ys
all_right [] ys h = h
all_right (x ∷ xs) ys h = all_right xs ys h.1

parts_formed : (lines before rest : List Line) (bad : Line) → lines ≡ before ++ bad ∷ rest → AllFormed lines → AllFormed before × AreFormed bad.tokens
parts_formed lines before rest bad e h =
    let all : AllFormed (before ++ bad ∷ rest) = subst AllFormed e h in
    (all_left before (bad ∷ rest) all, (all_right before (bad ∷ rest) all).0)

first_bad : (lines : List Line) (r : Refusal) → AllFormed lines → (f : Fails start lines r) → IsFirstBad lines f.before f.bad
first_bad lines r formed f =
    let p = parts_formed lines f.before f.rest f.bad f.parts formed in
    record {
      after = f.rest;
      parts = f.parts;
      good = goes_on_if_ok f.before f.reached p.0 f.reaches;
      stops = λ g. not_both (step_if_goes_on f.before f.bad f.reached f.reaches g) f.stops;
    }
  where
    not_both : ((u : State) × (step f.reached f.bad ≡ Ok u)) → step f.reached f.bad ≡ Err r → ⊥
    not_both u e = let is = u.1 in absurd cc

stop_here : (before : List Line) (bad : Line) (s : State) (x : Result State Refusal) → AllFormed before → AreFormed bad.tokens → after start before ≡ Ok s → ¬ CanGoOn (before ++ bad ∷ []) → step s bad ≡ x → (r : Refusal) × (step s bad ≡ Err r)
stop_here before bad s (Ok u) formed fits h stops e = absurd (stops (goes_on_if_steps before bad s u formed fits h e))
stop_here before bad s (Err r) formed fits h stops e = (r, e)

-- What the reader does at the first bad statement.
pub record StopsAt (e : ℕ) (lines before : List Line) (bad : Line) : Type 0 where
  pub reached : State
  pub refusal : Refusal
  pub reaches : after start before ≡ Ok reached
  pub stops : step reached bad ≡ Err refusal
  pub runs : run e start lines ≡ Err refusal

pub stops_at : (e : ℕ) (lines before : List Line) (bad : Line) → AllFormed lines → IsFirstBad lines before bad → StopsAt e lines before bad
stops_at e lines before bad formed b =
    let s = ok_if_goes_on before b.good in
    let p = parts_formed lines before b.after bad b.parts formed in
    let r = stop_here before bad s.0 (step s.0 bad) p.0 p.1 s.1 b.stops refl in
    record {
      reached = s.0;
      refusal = r.0;
      reaches = s.1;
      stops = r.1;
      runs = ap (run e start) b.parts ∙ run_after e start s.0 before (bad ∷ b.after) s.1 ∙ run_err e s.0 r.0 bad b.after r.1;
    }

-- ---- the end

run_whole : (e : ℕ) (s t : State) (lines : List Line) → after s lines ≡ Ok t → run e s lines ≡ finish e t
run_whole e s t lines h = ap (run e s) (sym (append-nil lines)) ∙ run_after e s t lines [] h ∙ run_end e t

run_whole_err : (e : ℕ) (s : State) (r : Refusal) (lines : List Line) → after s lines ≡ Err r → run e s lines ≡ Err r
run_whole_err e s r lines h = ap (run e s) (sym (append-nil lines)) ∙ run_stop e s r lines [] h

finish_err : (e : ℕ) (s : State) (r : Refusal) → finish e s ≡ Err r → r ≡ BadForm e
finish_err e (file ms []) r h = absurd cc
finish_err e (file ms (a ∷ held)) r h = cc
finish_err e (inside ms m held) r h = cc
finish_err e (within ms m c) r h = cc

pub ok_not_err : (x : Result Tree Refusal) (t : Tree) (r : Refusal) → x ≡ Ok t → x ≡ Err r → ⊥
ok_not_err x t r h g = cc

pub same_err : (x : Result Tree Refusal) (r f : Refusal) → x ≡ Err r → x ≡ Err f → r ≡ f
same_err x r f h g = cc

same_step : (x : Result State Refusal) (r f : Refusal) → x ≡ Err r → x ≡ Err f → r ≡ f
same_step x r f h g = cc

same_bad : (l n : ℕ) → BadForm l ≡ BadForm n → l ≡ n
same_bad l n h = cc

same_unsupported : (l n : ℕ) → UnsupportedStatement l ≡ UnsupportedStatement n → l ≡ n
same_unsupported l n h = cc

two_kinds : (l n : ℕ) → BadForm l ≡ UnsupportedStatement n → ⊥
two_kinds l n h = cc

cut_short : (e : ℕ) (lines : List Line) (s : State) (r : Refusal) → AllFormed lines → after start lines ≡ Ok s → run e start lines ≡ Err r → IsCutShort lines × (r ≡ BadForm e)
cut_short e lines s r formed h runs = (
  record { good = goes_on_if_ok lines s formed h; missing = λ t text. ok_not_err (run e start lines) t r (complete e lines t text) runs },
  finish_err e s r (sym (run_whole e start s lines h) ∙ runs),
)

-- ---- a statement is not of form, or something is missing

bad_statement : (lines : List Line) (line : ℕ) → AllFormed lines → Fails start lines (BadForm line) → HasBadStatement lines line
bad_statement lines line formed f = record {
  before = f.before;
  bad = f.bad;
  first = first_bad lines (BadForm line) formed f;
  no_form = λ p. two_kinds line f.bad.number (same_step (step f.reached f.bad) (BadForm line) (UnsupportedStatement f.bad.number) f.stops (refused_if f.before f.bad f.reached f.reaches p));
  line_is = ⊎_elim (λ e. same_bad line f.bad.number e) (λ e. absurd (two_kinds line f.bad.number e)) (step_err f.reached f.bad (BadForm line) f.stops);
}

bad_form_by : (e : ℕ) (lines : List Line) (line : ℕ) (x : Result State Refusal) → AllFormed lines → after start lines ≡ x → run e start lines ≡ Err (BadForm line) → HasBadStatement lines line ⊎ (IsCutShort lines × (line ≡ e))
bad_form_by e lines line (Ok s) formed h runs =
    let c = cut_short e lines s (BadForm line) formed h runs in
    inr (c.0, same_bad line e c.1)
bad_form_by e lines line (Err r) formed h runs =
    let same : r ≡ BadForm line = same_err (run e start lines) r (BadForm line) (run_whole_err e start r lines h) runs in
    inl (bad_statement lines line formed (fails start lines (BadForm line) (h ∙ ap (λ (y : Refusal). Err y) same)))

pub bad_form_if : (e : ℕ) (lines : List Line) (line : ℕ) → AllFormed lines → run e start lines ≡ Err (BadForm line) → HasBadStatement lines line ⊎ (IsCutShort lines × (line ≡ e))
bad_form_if e lines line formed runs = bad_form_by e lines line (after start lines) formed refl runs

if_bad_statement : (e : ℕ) (lines : List Line) (line : ℕ) → AllFormed lines → HasBadStatement lines line → run e start lines ≡ Err (BadForm line)
if_bad_statement e lines line formed b =
    let s : StopsAt e lines b.before b.bad = stops_at e lines b.before b.bad formed b.first in
    let p = parts_formed lines b.before b.first.after b.bad b.first.parts formed in
    ⊎_elim
    (λ is. s.runs ∙ ap (λ (y : Refusal). Err y) is ∙ ap (λ n. Err (BadForm n)) (sym b.line_is))
    (λ is. absurd (b.no_form (unsupported_if b.before b.bad s.reached p.0 p.1 s.reaches (s.stops ∙ ap (λ (y : Refusal). Err y) is))))
    (step_err s.reached b.bad s.refusal s.stops)

if_ends_bad : (e : ℕ) (lines : List Line) (s : State) (x : Result Tree Refusal) → AllFormed lines → after start lines ≡ Ok s → IsCutShort lines → finish e s ≡ x → run e start lines ≡ Err (BadForm e)
if_ends_bad e lines s (Ok t) formed h c f = absurd (c.missing t (sound e lines t formed (run_whole e start s lines h ∙ f)))
if_ends_bad e lines s (Err r) formed h c f = run_whole e start s lines h ∙ f ∙ ap (λ (y : Refusal). Err y) (finish_err e s r f)

if_cut_short : (e : ℕ) (lines : List Line) → AllFormed lines → IsCutShort lines → run e start lines ≡ Err (BadForm e)
if_cut_short e lines formed c =
    let s = ok_if_goes_on lines c.good in
    if_ends_bad e lines s.0 (finish e s.0) formed s.1 c refl

pub if_bad_form : (e : ℕ) (lines : List Line) (line : ℕ) → AllFormed lines → HasBadStatement lines line ⊎ (IsCutShort lines × (line ≡ e)) → run e start lines ≡ Err (BadForm line)
if_bad_form e lines line formed p =
    ⊎_elim
    (λ b. if_bad_statement e lines line formed b)
    (λ c. if_cut_short e lines formed c.0 ∙ ap (λ n. Err (BadForm n)) (sym c.1))
    p

-- ---- a statement is unsupported

-- The first bad statement is unsupported, and on this line.
pub record IsUnsupportedAt (lines : List Line) (line : ℕ) : Type 0 where
  pub before : List Line
  pub bad : Line
  pub first : IsFirstBad lines before bad
  pub unsupported : IsUnsupported before bad
  pub line_is : line ≡ bad.number

unsupported_statement : (lines : List Line) (line : ℕ) → AllFormed lines → Fails start lines (UnsupportedStatement line) → IsUnsupportedAt lines line
unsupported_statement lines line formed f =
    let p = parts_formed lines f.before f.rest f.bad f.parts formed in
    let same : line ≡ f.bad.number =
    ⊎_elim (λ e. absurd (two_kinds f.bad.number line (sym e))) (λ e. same_unsupported line f.bad.number e) (step_err f.reached f.bad (UnsupportedStatement line) f.stops) in
    record {
      before = f.before;
      bad = f.bad;
      first = first_bad lines (UnsupportedStatement line) formed f;
      unsupported = unsupported_if f.before f.bad f.reached p.0 p.1 f.reaches (f.stops ∙ ap (λ n. Err (UnsupportedStatement n)) same);
      line_is = same;
    }

unsupported_by : (e : ℕ) (lines : List Line) (line : ℕ) (x : Result State Refusal) → AllFormed lines → after start lines ≡ x → run e start lines ≡ Err (UnsupportedStatement line) → IsUnsupportedAt lines line
unsupported_by e lines line (Ok s) formed h runs = absurd (two_kinds e line (sym (cut_short e lines s (UnsupportedStatement line) formed h runs).1))
unsupported_by e lines line (Err r) formed h runs =
    let same : r ≡ UnsupportedStatement line = same_err (run e start lines) r (UnsupportedStatement line) (run_whole_err e start r lines h) runs in
    unsupported_statement lines line formed (fails start lines (UnsupportedStatement line) (h ∙ ap (λ (y : Refusal). Err y) same))

pub unsupported_at_if : (e : ℕ) (lines : List Line) (line : ℕ) → AllFormed lines → run e start lines ≡ Err (UnsupportedStatement line) → IsUnsupportedAt lines line
unsupported_at_if e lines line formed runs = unsupported_by e lines line (after start lines) formed refl runs

pub if_unsupported_at : (e : ℕ) (lines : List Line) (line : ℕ) → AllFormed lines → IsUnsupportedAt lines line → run e start lines ≡ Err (UnsupportedStatement line)
if_unsupported_at e lines line formed b =
    let s : StopsAt e lines b.before b.bad = stops_at e lines b.before b.bad formed b.first in
    s.runs
    ∙ ap (λ (y : Refusal). Err y) (same_step (step s.reached b.bad) s.refusal (UnsupportedStatement b.bad.number) s.stops (refused_if b.before b.bad s.reached s.reaches b.unsupported))
    ∙ ap (λ n. Err (UnsupportedStatement n)) (sym b.line_is)

-- ---- the reader answers no other error

pub two_errors : (e : ℕ) (lines : List Line) (r : Refusal) → run e start lines ≡ Err r → ((line : ℕ) × (r ≡ BadForm line)) ⊎ ((line : ℕ) × (r ≡ UnsupportedStatement line))
two_errors e lines r runs = errors_by (after start lines) refl
  where
    errors_by : (x : Result State Refusal) → after start lines ≡ x → ((line : ℕ) × (r ≡ BadForm line)) ⊎ ((line : ℕ) × (r ≡ UnsupportedStatement line))
    errors_by (Ok s) h = inl (e, finish_err e s r (sym (run_whole e start s lines h) ∙ runs))
    errors_by (Err f) h =
        let same : f ≡ r = same_err (run e start lines) f r (run_whole_err e start f lines h) runs in
        let x : Fails start lines r = fails start lines r (h ∙ ap (λ (y : Refusal). Err y) same) in
        ⊎_elim (λ is. inl (x.bad.number, is)) (λ is. inr (x.bad.number, is)) (step_err x.reached x.bad r x.stops)
