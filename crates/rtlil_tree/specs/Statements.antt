-- The forms of statements.
use Rattle.std.specs.Prelude.{◌≡◌, ℕ, ◌+◌, ◌≤◌, ◌⊎◌, max, true, false, ℤ, pos, List, [], ◌∷◌, ◌++◌, Option, Some, None, fold, map}
use Rattle.std.specs.List.{flat_map, AllByRecursion}
use Rattle.circuit_types.specs.declared.signal.Value.{Value}
use Rattle.circuit_types.specs.declared.signal.Value.TheVariants as value
use Rattle.circuit_types.specs.declared.signal.Signal.{Signal}
use Rattle.circuit_types.specs.declared.signal.Signal.TheOpen.{Signal-F}
use Rattle.circuit_types.specs.declared.signal.Signal.TheFolds.{fold-Signal}
use Rattle.circuit_types.specs.declared.tree.Attribute.{Attribute}
use Rattle.circuit_types.specs.declared.tree.Module.{Module}
use Rattle.circuit_types.specs.declared.tree.Parameter.{Parameter}
use Rattle.circuit_types.specs.declared.tree.ParameterForm.{ParameterForm}
use Rattle.circuit_types.specs.declared.tree.ParameterForm.TheVariants as form
use Rattle.circuit_types.specs.declared.tree.Wire.{Wire}
use Rattle.circuit_types.specs.declared.tree.Port.{Port}
use Rattle.circuit_types.specs.declared.tree.Port.TheVariants as port
use Rattle.circuit_types.specs.declared.tree.Cell.{Cell}
use Rattle.circuit_types.specs.declared.tree.Connect.{Connect}
use Rattle.circuit_types.specs.declared.tree.PortConnect.{PortConnect}
use Rattle.rtlil_tree.specs.declared.keyword.Keyword.TheVariants as word
use Rattle.rtlil_tree.specs.declared.options.WireOption.{WireOption}
use Rattle.rtlil_tree.specs.declared.options.WireOption.TheVariants.{Width, Offset, Input, Output, Inout, Upto, Signed}
use Rattle.rtlil_tree.specs.declared.options.Options.{Options}
use Rattle.rtlil_tree.specs.Lexemes.{Lexeme, key, id, constant, open_slice, close_slice, open_join, close_join, colon}

abbrev pub number : ℕ → Lexeme
number n = constant (value.Number (pos n))

-- A signal is written as constants, names, the places of slices, and the ends of joins.
pub data Piece : Type 0 where
  lexeme : Lexeme → Piece
  places : ℕ → ℕ → Piece

-- `[ high : low ]`, or `[ place ]` for one place
abbrev pub IsPiece : Piece → List Lexeme → Type 0
IsPiece (lexeme x) xs = xs ≡ x ∷ []
IsPiece (places high low) xs =
    (xs ≡ open_slice ∷ number high ∷ colon ∷ number low ∷ close_slice ∷ [])
    ⊎ ((high ≡ low) × (xs ≡ open_slice ∷ number low ∷ close_slice ∷ []))

abbrev pub ArePieces : List Piece → List Lexeme → Type 0
ArePieces [] xs = xs ≡ []
ArePieces (piece ∷ pieces) xs = (first rest : List Lexeme) × (xs ≡ first ++ rest) × IsPiece piece first × ArePieces pieces rest

abbrev pub all_of : List (List Piece) → List Piece
all_of [] = []
all_of (pieces ∷ more) = pieces ++ all_of more

-- one level of a signal, with the pieces of each part in its place
abbrev pub pieces_step : Signal-F (List Piece) → List Piece
pieces_step (Signal-F.Value v) = lexeme (constant v) ∷ []
pieces_step (Signal-F.Wire name) = lexeme (id name) ∷ []
pieces_step (Signal-F.Slice of high low) = of ++ places high low ∷ []
pieces_step (Signal-F.Join parts) = lexeme open_join ∷ (all_of parts ++ lexeme close_join ∷ [])

abbrev pub pieces_of : Signal → List Piece
pieces_of = fold-Signal (List Piece) pieces_step

abbrev pub most_of : List ℕ → ℕ
most_of [] = 0
most_of (n ∷ ns) = max n (most_of ns)

-- one level of a signal, with the nesting of each part in its place
abbrev pub nesting_step : Signal-F ℕ → ℕ
nesting_step (Signal-F.Value v) = 0
nesting_step (Signal-F.Wire name) = 0
nesting_step (Signal-F.Slice of high low) = 1 + of
nesting_step (Signal-F.Join parts) = 1 + most_of parts

-- how deep slices and joins nest
abbrev pub nesting_of : Signal → ℕ
nesting_of = fold-Signal ℕ nesting_step

-- signals one after the other, each nested at most 64 deep
abbrev pub AreSignals : List Signal → List Lexeme → Type 0
AreSignals signals xs = ArePieces (all_of (map pieces_of signals)) xs × AllByRecursion (λ s. nesting_of s ≤ 64) signals

abbrev pub option_lexemes : WireOption → List Lexeme
option_lexemes (Width n) = key word.Width ∷ number n ∷ []
option_lexemes (Offset z) = key word.Offset ∷ constant (value.Number z) ∷ []
option_lexemes (Input n) = key word.Input ∷ number n ∷ []
option_lexemes (Output n) = key word.Output ∷ number n ∷ []
option_lexemes (Inout z) = key word.Inout ∷ constant (value.Number z) ∷ []
option_lexemes Upto = key word.Upto ∷ []
option_lexemes Signed = key word.Signed ∷ []

-- what no options say
abbrev pub no_options : Options
no_options = record { width = 1; offset = pos 0; input = None; output = None; inout = false; upto = false; signed = false }

-- with one more option, which replaces an earlier one of its word
abbrev pub with_option : Options → WireOption → Options
with_option o (Width n) = record o { width = n }
with_option o (Offset z) = record o { offset = z }
with_option o (Input n) = record o { input = Some n }
with_option o (Output n) = record o { output = Some n }
with_option o (Inout z) = record o { inout = true }
with_option o Upto = record o { upto = true }
with_option o Signed = record o { signed = true }

-- what the options of a wire say together, each after those before it
abbrev pub options_said : List WireOption → Options
options_said options = fold with_option no_options options

-- no wire is both an input and an output
abbrev pub port_said : Option ℕ → Option ℕ → Option Port
port_said None None = Some port.Inner
port_said (Some n) None = Some (port.Input n)
port_said None (Some n) = Some (port.Output n)
port_said (Some n) (Some m) = None

-- the words of a wire with these options and this name
abbrev pub wire_lexemes : List WireOption → List ℕ → List Lexeme
wire_lexemes options name = key word.Wire ∷ (flat_map option_lexemes options ++ id name ∷ [])

-- what the options say, in any order and with repeats
pub record IsWire (w : Wire) (xs : List Lexeme) : Type 0 where
  pub options : List WireOption
  pub written : xs ≡ wire_lexemes options w.name
  pub supported : (options_said options).inout ≡ false
  pub width_said : w.width ≡ (options_said options).width
  pub offset_said : w.offset ≡ (options_said options).offset
  pub port_is : Some w.port ≡ port_said (options_said options).input (options_said options).output
  pub upto_said : w.upto ≡ (options_said options).upto
  pub signed_said : w.signed ≡ (options_said options).signed

abbrev pub optional : Option Value → List Lexeme
optional None = []
optional (Some v) = constant v ∷ []

abbrev pub form_lexemes : ParameterForm → List Lexeme
form_lexemes form.Plain = []
form_lexemes form.Signed = key word.Signed ∷ []
form_lexemes form.Real = key word.Real ∷ []

-- A statement, as the part of the tree that it begins; an attribute's and an end's line is in no tree.
pub data Statement : Type 0 where
  autoidx : ℤ → Statement
  attribute : Attribute → Statement
  begins : Module → Statement
  parameter : Parameter → Statement
  wire : Wire → Statement
  cell : Cell → Statement
  connect : Connect → Statement
  cell_parameter : Parameter → Statement
  port_connect : PortConnect → Statement
  ends : Statement

-- the words of the statement on the line of this number
abbrev pub IsStatement : Statement → ℕ → List Lexeme → Type 0
IsStatement (autoidx z) line xs = xs ≡ key word.Autoidx ∷ constant (value.Number z) ∷ []
IsStatement (attribute a) line xs = xs ≡ key word.Attribute ∷ id a.name ∷ constant a.value ∷ []
IsStatement (begins m) line xs = (m.line ≡ line) × (xs ≡ key word.Module ∷ id m.name ∷ [])
IsStatement (parameter p) line xs = (p.line ≡ line) × (p.form ≡ form.Plain) × (xs ≡ key word.Parameter ∷ id p.name ∷ optional p.value)
IsStatement (wire w) line xs = (w.line ≡ line) × IsWire w xs
IsStatement (cell c) line xs = (c.line ≡ line) × (xs ≡ key word.Cell ∷ id c.kind ∷ id c.name ∷ [])
IsStatement (connect c) line xs = (c.line ≡ line) × (signals : List Lexeme) × (xs ≡ key word.Connect ∷ signals) × AreSignals (c.left ∷ c.right ∷ []) signals
IsStatement (cell_parameter p) line xs = (p.line ≡ line) × (v : Value) × (p.value ≡ Some v) × (xs ≡ key word.Parameter ∷ (form_lexemes p.form ++ id p.name ∷ constant v ∷ []))
IsStatement (port_connect c) line xs = (c.line ≡ line) × (signals : List Lexeme) × (xs ≡ key word.Connect ∷ id c.port ∷ signals) × AreSignals (c.signal ∷ []) signals
IsStatement ends line xs = xs ≡ key word.End ∷ []
