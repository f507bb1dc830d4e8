-- How the reader goes from the words of a statement to its form; the definition is in Statements.antt.
use Rattle.std.specs.Prelude.{ℕ, ◌≡◌, map, Result, Ok, Err, ◌+◌, ◌-◌, zero, suc, ◌≤◌, nat_lt, if◌then◌else◌, Bool, true, false, ℤ, pos, negsuc, List, [], ◌∷◌, ◌++◌, length, drop, Option, Some, None, option_map}
use Rattle.circuit_types.specs.declared.signal.Value.{Value}
use Rattle.circuit_types.specs.declared.signal.Value.TheVariants as value
use Rattle.circuit_types.specs.declared.signal.Signal.{Signal}
use Rattle.circuit_types.specs.declared.signal.Signal.TheVariants as signal
use Rattle.circuit_types.specs.declared.tree.Attribute.{Attribute}
use Rattle.circuit_types.specs.declared.tree.Parameter.{Parameter}
use Rattle.circuit_types.specs.declared.tree.ParameterForm.{ParameterForm}
use Rattle.circuit_types.specs.declared.tree.ParameterForm.TheVariants as form
use Rattle.circuit_types.specs.declared.tree.Port.{Port}
use Rattle.circuit_types.specs.declared.tree.Connect.{Connect}
use Rattle.rtlil_tree.specs.declared.keyword.Keyword.{Keyword}
use Rattle.rtlil_tree.specs.declared.keyword.Keyword.TheVariants as word
use Rattle.rtlil_tree.specs.declared.options.WireOption.{WireOption}
use Rattle.rtlil_tree.specs.declared.options.WireOption.TheVariants.{Width, Offset, Input, Output, Inout, Upto, Signed}
use Rattle.rtlil_tree.specs.declared.options.Options.{Options}
use Rattle.rtlil_tree.specs.declared.statements.FileStatement.{FileStatement}
use Rattle.rtlil_tree.specs.declared.statements.FileStatement.TheVariants as file
use Rattle.rtlil_tree.specs.declared.statements.ModuleStatement.{ModuleStatement}
use Rattle.rtlil_tree.specs.declared.statements.ModuleStatement.TheVariants as unit
use Rattle.rtlil_tree.specs.declared.statements.WireStatement.{WireStatement}
use Rattle.rtlil_tree.specs.declared.statements.CellStatement.{CellStatement}
use Rattle.rtlil_tree.specs.declared.statements.CellStatement.TheVariants as cell
use Rattle.rtlil_tree.specs.Lexemes.{Lexeme, key, id, constant, open_slice, close_slice, open_join, close_join, colon}
use Rattle.rtlil_tree.specs.Statements.{Piece, lexeme, places, nesting_of, no_options, with_option, port_said}
use Rattle.std.specs.declared.vec.Vec.{Vec}
use Rattle.std.specs.declared.alloc.Global.{Global}
use Rattle.rtlil_tree.specs.declared.misfit.Misfit.{Misfit}
use Rattle.rtlil_tree.specs.declared.misfit.Misfit.TheVariants as misfit
use Rattle.rtlil_tree.specs.declared.word.Word.{Word}
use Rattle.rtlil_tree.specs.Said.{◌>>=◌, plain}

abbrev pub constant_of : Lexeme → Option Value
constant_of (constant v) = Some v
constant_of x = None

-- ---- signals

-- a number that is not below 0
abbrev pub place_of : ℤ → Option ℕ
place_of (pos n) = Some n
place_of (negsuc n) = None

-- the places of a slice behind its `[`, and how many words they take
abbrev pub slice_at : List Lexeme → Option (ℕ × ℕ × ℕ)
slice_at (constant (value.Number h) ∷ colon ∷ constant (value.Number l) ∷ close_slice ∷ xs) = place_of h >>= λ high. place_of l >>= λ low. Some (high, low, 4)
slice_at (constant (value.Number z) ∷ close_slice ∷ xs) = place_of z >>= λ place. Some (place, place, 2)
slice_at xs = None

abbrev pub init_and_last : Signal → List Signal → List Signal × Signal
init_and_last s [] = ([], s)
init_and_last s (t ∷ ts) = (s ∷ (init_and_last t ts).0, (init_and_last t ts).1)

-- the signals before the last, and the last
abbrev pub last_of : List Signal → Option (List Signal × Signal)
last_of [] = None
last_of (s ∷ ss) = Some (init_and_last s ss)

-- the last signal sliced, where so many joins are open
abbrev pub sliced : ℕ → List Signal → ℕ → ℕ → Option (List Signal)
sliced depth signals high low = last_of signals >>= λ parts.
    if nat_lt (depth + nesting_of parts.1) 64 then Some (parts.0 ++ signal.Slice parts.1 high low ∷ []) else None

-- The signals that stand already: in the joins around, the innermost first, and in the join that is read.
pub record Standing : Type 0 where
  pub around : List (List Signal)
  pub inner : List Signal

abbrev pub with_inner : List (List Signal) → List Signal → Standing
with_inner around inner = record { around = around; inner = inner }

abbrev pub closed : List (List Signal) → List Signal → Option Standing
closed [] inner = None
closed (outer ∷ around) inner = Some (with_inner around (outer ++ signal.Join inner ∷ []))

-- what stands with one more piece
abbrev pub moved : Standing → Piece → Option Standing
moved s (lexeme (constant v)) = Some (with_inner s.around (s.inner ++ signal.Value v ∷ []))
moved s (lexeme (id name)) = Some (with_inner s.around (s.inner ++ signal.Wire name ∷ []))
moved s (lexeme open_join) = if nat_lt (length s.around) 64 then Some (with_inner (s.inner ∷ s.around) []) else None
moved s (lexeme close_join) = closed s.around s.inner
moved s (lexeme x) = None
moved s (places high low) = option_map (with_inner s.around) (sliced (length s.around) s.inner high low)

-- the piece that stands first, and how many words it takes
abbrev pub piece_at : Lexeme → List Lexeme → Option (Piece × ℕ)
piece_at open_slice xs = slice_at xs >>= λ s. Some (places s.0 s.1, s.2 + 1)
piece_at x xs = Some (lexeme x, 1)

-- the signals, where no join is open
abbrev pub finished : List (List Signal) → List Signal → Option (List Signal)
finished [] inner = Some inner
finished (outer ∷ around) inner = None

-- the signals that the words give behind those that stand; so many words are still those of the piece before
unfoldable pub signals_from : Standing → ℕ → List Lexeme → Option (List Signal)
signals_from s skipped [] = finished s.around s.inner
signals_from s (suc skipped) (x ∷ xs) = signals_from s skipped xs
signals_from s zero (x ∷ xs) = piece_at x xs >>= λ p. moved s p.0 >>= λ t. signals_from t (p.1 - 1) xs

-- the signals that words are, one after the other, where they are signals and nothing else
abbrev pub signals_of : List Lexeme → Option (List Signal)
signals_of xs = signals_from (with_inner [] []) 0 xs

-- the signal that a word is
abbrev pub atom_of : Lexeme → Option Signal
atom_of (constant v) = Some (signal.Value v)
atom_of (id name) = Some (signal.Wire name)
atom_of x = None

-- a join or the words end here
abbrev pub ends_join : List Lexeme → Bool
ends_join [] = true
ends_join (close_join ∷ xs) = true
ends_join xs = false

abbrev pub closes : List Lexeme → Bool
closes (close_join ∷ xs) = true
closes xs = false

-- What the words from a place on give behind any joins, so many, is what those from another place on give when the
-- signals stand there too.
pub record ReadsOn (words : List Word) (start : ℕ) (depth : ℕ) (signals : List Signal) (place : ℕ) : Type 0 where
  pub order : start ≤ place
  pub within : place ≤ length words
  pub same : (around : List (List Signal)) → length around ≡ depth → signals_from (with_inner around []) 0 (map plain (drop start words)) ≡ signals_from (with_inner around signals) 0 (map plain (drop place words))

-- all signals up to the end of a join or of the words
pub record ReadsAll (words : List Word) (start : ℕ) (depth : ℕ) (signals : List Signal) (place : ℕ) : Type 0 where
  pub reads : ReadsOn words start depth signals place
  pub stops : ends_join (map plain (drop place words)) ≡ true

-- the words from the place on give no signals behind any joins, so many
abbrev pub ReadsNone : List Word → ℕ → ℕ → Type 0
ReadsNone words start depth = (around : List (List Signal)) → length around ≡ depth → signals_from (with_inner around []) 0 (map plain (drop start words)) ≡ None

abbrev pub NoneUnless : Misfit → List Word → ℕ → ℕ → Type 0
NoneUnless misfit.NoMemory words start depth = Unit {0}
NoneUnless misfit.NoForm words start depth = ReadsNone words start depth

-- what reading a list of signals answers
abbrev pub ReadsParts : Result (Vec Signal Global × ℕ) Misfit → List Word → ℕ → ℕ → Type 0
ReadsParts (Ok r) words start depth = ReadsAll words start depth r.0.items r.1
ReadsParts (Err e) words start depth = NoneUnless e words start depth

-- ---- wires

-- the option that a word with a number is
abbrev pub numbered_of : Keyword → ℤ → Option WireOption
numbered_of word.Width z = option_map (λ n. Width n) (place_of z)
numbered_of word.Offset z = Some (Offset z)
numbered_of word.Input z = option_map (λ n. Input n) (place_of z)
numbered_of word.Output z = option_map (λ n. Output n) (place_of z)
numbered_of word.Inout z = Some (Inout z)
numbered_of k z = None

abbrev pub first_number : List Lexeme → Option ℤ
first_number (constant (value.Number z) ∷ xs) = Some z
first_number xs = None

-- the option that this word begins, and how many words it takes
abbrev pub keyed : Keyword → List Lexeme → Option (WireOption × ℕ)
keyed word.Upto xs = Some (Upto, 1)
keyed word.Signed xs = Some (Signed, 1)
keyed k xs = first_number xs >>= λ z. option_map (λ o. (o, 2)) (numbered_of k z)

-- the option that stands first, and how many words it takes
abbrev pub option_at : List Lexeme → Option (WireOption × ℕ)
option_at (key k ∷ xs) = keyed k xs
option_at xs = None

-- the name, where it is the only word
abbrev pub only_name : List Lexeme → Option (List ℕ)
only_name (id name ∷ []) = Some name
only_name xs = None

-- What the options say behind those before, and the name, which is the last word; so many words are still those of the
-- option before.
unfoldable pub options_from : Options → ℕ → List Lexeme → Option (Options × List ℕ)
options_from o skipped [] = None
options_from o (suc skipped) (x ∷ xs) = options_from o skipped xs
options_from o zero (x ∷ xs) =
    elim (option_at (x ∷ xs)) [ Some w ↦ options_from (with_option o w.0) (w.1 - 1) xs | None ↦ option_map (λ name. (o, name)) (only_name (x ∷ xs)) ]

-- ---- the forms, by place

-- a statement between modules, as what it says
pub data FileForm : Type 0 where
  autoidx : ℤ → FileForm
  attribute : Attribute → FileForm
  begins : List ℕ → FileForm

-- what a wire statement says: its name, its direction and its options
pub record WireForm : Type 0 where
  pub name : List ℕ
  pub port : Port
  pub options : Options

-- a statement of a module, as what it says
pub data ModuleForm : Type 0 where
  attribute_in : Attribute → ModuleForm
  parameter : Parameter → ModuleForm
  wire : WireForm → ModuleForm
  cell_begins : List ℕ → List ℕ → ModuleForm
  connect : Connect → ModuleForm
  ends : ModuleForm

-- a statement of a cell, as what it says
pub data CellForm : Type 0 where
  cell_parameter : Parameter → CellForm
  port_connect : List ℕ → Signal → CellForm
  cell_ends : CellForm

-- what follows `attribute`
abbrev pub attribute_of : List Lexeme → Option Attribute
attribute_of (id name ∷ x ∷ []) = constant_of x >>= λ v. Some (record { name = name; value = v })
attribute_of xs = None

-- what follows `autoidx`
abbrev pub autoidx_of : List Lexeme → Option FileForm
autoidx_of (constant (value.Number z) ∷ []) = Some (autoidx z)
autoidx_of xs = None

-- what follows `module`
abbrev pub begins_of : List Lexeme → Option FileForm
begins_of (id name ∷ []) = Some (begins name)
begins_of xs = None

-- what the words of a statement between modules say, where they are one
abbrev pub file_form_of : List Lexeme → Option FileForm
file_form_of (key word.Autoidx ∷ xs) = autoidx_of xs
file_form_of (key word.Attribute ∷ xs) = option_map attribute (attribute_of xs)
file_form_of (key word.Module ∷ xs) = begins_of xs
file_form_of xs = None

abbrev pub parameter_with : ℕ → ParameterForm → List ℕ → Option Value → Parameter
parameter_with line form name v = record { line = line; form = form; name = name; value = v }

-- what follows `parameter` in a module
abbrev pub module_parameter_of : ℕ → List Lexeme → Option Parameter
module_parameter_of line (id name ∷ []) = Some (parameter_with line form.Plain name None)
module_parameter_of line (id name ∷ x ∷ []) = constant_of x >>= λ v. Some (parameter_with line form.Plain name (Some v))
module_parameter_of line xs = None

-- what follows `wire`
abbrev pub wire_of : List Lexeme → Option WireForm
wire_of xs = options_from no_options 0 xs >>= λ w. port_said w.0.input w.0.output >>= λ p. Some (record { name = w.1; port = p; options = w.0 })

-- what follows `cell`
abbrev pub cell_of : List Lexeme → Option ModuleForm
cell_of (id kind ∷ id name ∷ []) = Some (cell_begins kind name)
cell_of xs = None

abbrev pub one_of : List Signal → Option Signal
one_of (s ∷ []) = Some s
one_of ss = None

abbrev pub two_of : List Signal → Option (Signal × Signal)
two_of (l ∷ r ∷ []) = Some (l, r)
two_of ss = None

-- what follows `connect` in a module
abbrev pub connect_of : ℕ → List Lexeme → Option Connect
connect_of line xs = signals_of xs >>= λ ss. two_of ss >>= λ sides. Some (record { line = line; left = sides.0; right = sides.1 })

-- what follows `end`
abbrev pub end_of : List Lexeme → Option (Unit {0})
end_of [] = Some tt
end_of xs = None

-- what the words of a statement of a module on this line say, where they are one
abbrev pub module_form_of : ℕ → List Lexeme → Option ModuleForm
module_form_of line (key word.Attribute ∷ xs) = option_map attribute_in (attribute_of xs)
module_form_of line (key word.Parameter ∷ xs) = option_map parameter (module_parameter_of line xs)
module_form_of line (key word.Wire ∷ xs) = option_map wire (wire_of xs)
module_form_of line (key word.Cell ∷ xs) = cell_of xs
module_form_of line (key word.Connect ∷ xs) = option_map connect (connect_of line xs)
module_form_of line (key word.End ∷ xs) = option_map (λ _. ends) (end_of xs)
module_form_of line xs = None

-- the form of a cell's parameter, and what follows its word
abbrev pub parameter_form_of : List Lexeme → ParameterForm × List Lexeme
parameter_form_of (key word.Signed ∷ xs) = (form.Signed, xs)
parameter_form_of (key word.Real ∷ xs) = (form.Real, xs)
parameter_form_of xs = (form.Plain, xs)

-- what follows `parameter` in a cell
abbrev pub cell_parameter_of : ℕ → List Lexeme → Option Parameter
cell_parameter_of line xs = attribute_of (parameter_form_of xs).1 >>= λ a. Some (parameter_with line (parameter_form_of xs).0 a.name (Some a.value))

-- the bit of a wire at a place
abbrev pub one_bit : List ℕ → ℕ → Signal
one_bit name place = signal.Slice (signal.Wire name) place place

-- the wire and the place, where the words are a bit of a wire
abbrev pub wire_bit : List Lexeme → Option (List ℕ × ℕ)
wire_bit (id name ∷ open_slice ∷ constant (value.Number z) ∷ close_slice ∷ []) = place_of z >>= λ place. Some (name, place)
wire_bit xs = None

-- the only signal that the words are
abbrev pub only_signal : List Lexeme → Option Signal
only_signal xs = signals_of xs >>= one_of

-- what follows `connect` in a cell
abbrev pub port_connect_of : List Lexeme → Option CellForm
port_connect_of (id port ∷ xs) = only_signal xs >>= λ s. Some (port_connect port s)
port_connect_of xs = None

-- what the words of a statement of a cell on this line say, where they are one
abbrev pub cell_form_of : ℕ → List Lexeme → Option CellForm
cell_form_of line (key word.Connect ∷ xs) = port_connect_of xs
cell_form_of line (key word.Parameter ∷ xs) = option_map cell_parameter (cell_parameter_of line xs)
cell_form_of line (key word.End ∷ xs) = option_map (λ _. cell_ends) (end_of xs)
cell_form_of line xs = None

-- ---- what the reader's statements are

abbrev pub file_view : FileStatement → FileForm
file_view (file.Autoidx z) = autoidx z
file_view (file.Attribute a) = attribute a
file_view (file.Module name) = begins name.now

abbrev pub wire_view : WireStatement → WireForm
wire_view w = record { name = w.name.now; port = w.port; options = w.options }

abbrev pub module_view : ModuleStatement → ModuleForm
module_view (unit.Attribute a) = attribute_in a
module_view (unit.Parameter p) = parameter p
module_view (unit.Wire w) = wire (wire_view w)
module_view (unit.Cell kind name) = cell_begins kind.now name.now
module_view (unit.Connect c) = connect c
module_view unit.End = ends

abbrev pub cell_view : CellStatement → CellForm
cell_view (cell.Parameter p) = cell_parameter p
cell_view (cell.Connect port s) = port_connect port.now s
cell_view cell.End = cell_ends
