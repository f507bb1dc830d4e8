-- How the reader goes from statement to statement; the definition is in Text.antt.
use Rattle.std.specs.Prelude.{◌≡◌, ℕ, if◌then◌else◌, Bool, true, false, List, [], ◌∷◌, ◌++◌, Option, Some, None, Result, Ok, Err}
use Rattle.rtlil_lex.specs.declared.token.TokenKind.{TokenKind}
use Rattle.rtlil_lex.specs.declared.token.TokenKind.TheVariants as kind
use Rattle.rtlil_tree.specs.Names.{is_among, wire_names, cell_names, port_names, module_names}
use Rattle.circuit_types.specs.declared.refusal.Refusal.{Refusal}
use Rattle.circuit_types.specs.declared.refusal.Refusal.TheVariants.{BadForm, UnsupportedStatement}
use Rattle.circuit_types.specs.declared.signal.Signal.{Signal}
use Rattle.circuit_types.specs.declared.tree.Tree.{Tree}
use Rattle.circuit_types.specs.declared.tree.Module.{Module}
use Rattle.circuit_types.specs.declared.tree.Attribute.{Attribute}
use Rattle.circuit_types.specs.declared.tree.Item.{Item}
use Rattle.circuit_types.specs.declared.tree.Item.TheVariants as item
use Rattle.circuit_types.specs.declared.tree.Wire.{Wire}
use Rattle.circuit_types.specs.declared.tree.Cell.{Cell}
use Rattle.circuit_types.specs.declared.tree.PortConnect.{PortConnect}
use Rattle.rtlil_tree.specs.declared.keyword.Keyword.{Keyword}
use Rattle.rtlil_tree.specs.declared.keyword.Keyword.TheVariants.{Memory, Process}
use Rattle.rtlil_tree.specs.Lexemes.{Spelled}
use Rattle.rtlil_tree.specs.Lines.{Line}
use Rattle.rtlil_tree.specs.Said.{◌>>=◌, keyword_of, lexemes_of}
use Rattle.rtlil_tree.specs.Forms.{FileForm, autoidx, attribute, begins, file_form_of, WireForm, ModuleForm, attribute_in, parameter, wire, cell_begins, connect, ends, module_form_of, CellForm, cell_parameter, port_connect, cell_ends, cell_form_of}

-- The tree so far, and the place of the next statement: between modules, behind some attributes; in a module, behind
-- some attributes; or in a cell of a module.
pub data State : Type 0 where
  file : List Module → List Attribute → State
  inside : List Module → Module → List Attribute → State
  within : List Module → Module → Cell → State

abbrev pub start : State
start = file [] []

abbrev pub is_foreign_word : Option Keyword → Bool
is_foreign_word (Some Memory) = true
is_foreign_word (Some Process) = true
is_foreign_word word = false

abbrev pub is_foreign_token : TokenKind → List ℕ → Bool
is_foreign_token kind.Word text = is_foreign_word (keyword_of text)
is_foreign_token k text = false

-- whether the first word is `memory` or `process`
abbrev pub is_foreign : List Spelled → Bool
is_foreign [] = false
is_foreign (t ∷ ts) = is_foreign_token t.kind t.text

abbrev pub bad_form : {X : Type 0} → ℕ → Result X Refusal
bad_form line = Err (BadForm line)

abbrev pub unsupported : {X : Type 0} → ℕ → Result X Refusal
unsupported line = Err (UnsupportedStatement line)

-- the answer, unless names repeat or attributes are left over
abbrev pub unless : Bool → ℕ → State → Result State Refusal
unless bad line s = if bad then bad_form line else Ok s

abbrev pub has_some : List Attribute → Bool
has_some [] = false
has_some (a ∷ held) = true

abbrev pub with_items : Module → List Item → Module
with_items m items = record m { items = items }

abbrev pub module_begun : ℕ → List ℕ → List Attribute → Module
module_begun line name attributes = record { line = line; name = name; attributes = attributes; items = [] }

abbrev pub cell_begun : ℕ → List ℕ → List ℕ → List Attribute → Cell
cell_begun line kind name attributes = record { line = line; kind = kind; name = name; attributes = attributes; parameters = []; connects = [] }

-- the wire of a wire statement on this line, with the attributes before it
abbrev pub wire_made : ℕ → List Attribute → WireForm → Wire
wire_made line attributes w = record { line = line; name = w.name; attributes = attributes; width = w.options.width; offset = w.options.offset; port = w.port; upto = w.options.upto; signed = w.options.signed }

abbrev pub connect_made : ℕ → List ℕ → Signal → PortConnect
connect_made line port signal = record { line = line; port = port; signal = signal }

abbrev pub file_step : List Module → List Attribute → ℕ → Option FileForm → Result State Refusal
file_step ms held line None = bad_form line
file_step ms held line (Some (autoidx z)) = unless (has_some held) line (file ms held)
file_step ms held line (Some (attribute a)) = Ok (file ms (held ++ a ∷ []))
file_step ms held line (Some (begins name)) = unless (is_among name (module_names ms)) line (inside ms (module_begun line name held) [])

-- a wire whose name is new: refused where it has `inout`
abbrev pub wire_step : List Module → Module → List Attribute → ℕ → WireForm → Result State Refusal
wire_step ms m held line w = if w.options.inout then unsupported line else Ok (inside ms (with_items m (m.items ++ item.Wire (wire_made line held w) ∷ [])) [])

abbrev pub module_step : List Module → Module → List Attribute → ℕ → Option ModuleForm → Result State Refusal
module_step ms m held line None = bad_form line
module_step ms m held line (Some (attribute_in a)) = Ok (inside ms m (held ++ a ∷ []))
module_step ms m held line (Some (parameter p)) = unless (has_some held) line (inside ms (with_items m (m.items ++ item.Parameter p ∷ [])) held)
module_step ms m held line (Some (wire w)) = if is_among w.name (wire_names m.items) then bad_form line else wire_step ms m held line w
module_step ms m held line (Some (cell_begins kind name)) = unless (is_among name (cell_names m.items)) line (within ms m (cell_begun line kind name held))
module_step ms m held line (Some (connect c)) = unless (has_some held) line (inside ms (with_items m (m.items ++ item.Connect c ∷ [])) held)
module_step ms m held line (Some ends) = unless (has_some held) line (file (ms ++ m ∷ []) [])

abbrev pub cell_step : List Module → Module → Cell → ℕ → Option CellForm → Result State Refusal
cell_step ms m c line None = bad_form line
cell_step ms m c line (Some (cell_parameter p)) = Ok (within ms m (record c { parameters = c.parameters ++ p ∷ [] }))
cell_step ms m c line (Some (port_connect port signal)) =
    unless (is_among port (port_names c.connects)) line (within ms m (record c { connects = c.connects ++ connect_made line port signal ∷ [] }))
cell_step ms m c line (Some cell_ends) = Ok (inside ms (with_items m (m.items ++ item.Cell c ∷ [])) [])

abbrev pub step : State → Line → Result State Refusal
step (file ms held) line = file_step ms held line.number (lexemes_of line.tokens >>= file_form_of)
step (inside ms m held) line =
    if is_foreign line.tokens then unsupported line.number else module_step ms m held line.number (lexemes_of line.tokens >>= module_form_of line.number)
step (within ms m c) line = cell_step ms m c line.number (lexemes_of line.tokens >>= cell_form_of line.number)

-- the tree, where nothing is missing
abbrev pub finish : ℕ → State → Result Tree Refusal
finish end_line (file ms []) = Ok (record { modules = ms })
finish end_line s = bad_form end_line

-- what the statements give behind a state; the text ends on this line
unfoldable pub run : ℕ → State → List Line → Result Tree Refusal
run end_line s [] = finish end_line s
run end_line s (line ∷ lines) = elim (step s line) [ Ok t ↦ run end_line t lines | Err r ↦ Err r ]
