-- Which refusal a text has.
use Rattle.std.specs.Prelude.{◌≡◌, ℕ, ◌⊎◌, Bool, true, false, List, [], ◌∷◌, ◌++◌, filter, None}
use Rattle.rtlil_lex.specs.Tokens.{IsBadByte, IsOpenString, line_at}
use Rattle.circuit_types.specs.Top.{top_of}
use Rattle.circuit_types.specs.declared.tree.Tree.{Tree}
use Rattle.circuit_types.specs.declared.refusal.Refusal.{Refusal}
use Rattle.circuit_types.specs.declared.refusal.Refusal.TheVariants.{BadToken, BadForm, NoTop, UnsupportedStatement}
use Rattle.rtlil_tree.specs.declared.keyword.Keyword.TheVariants.{Memory, Process, Wire}
use Rattle.rtlil_tree.specs.declared.options.WireOption.{WireOption}
use Rattle.rtlil_tree.specs.declared.options.WireOption.TheVariants.{Inout}
use Rattle.rtlil_tree.specs.Lexemes.{Lexeme, key, AreSaid, Says, Spelled}
use Rattle.rtlil_tree.specs.Statements.{options_said, wire_lexemes}
use Rattle.rtlil_tree.specs.Lines.{Line, AreLines}
use Rattle.rtlil_tree.specs.Text.{IsTreeText, Stands}

-- A byte begins no token, or a string is not closed, on this line.
pub record HasBadToken (bytes : List ℕ) (line : ℕ) : Type 0 where
  pub place : ℕ
  pub fault : IsBadByte bytes place ⊎ IsOpenString bytes place
  pub line_is : line ≡ line_at bytes place

-- with some further statements the lines are those of a tree
pub record CanGoOn (lines : List Line) : Type 0 where
  pub more : List Line
  pub tree : Tree
  pub text : IsTreeText (lines ++ more) tree

-- The first statement with which the lines cannot go on.
pub record IsFirstBad (lines before : List Line) (bad : Line) : Type 0 where
  pub after : List Line
  pub parts : lines ≡ before ++ bad ∷ after
  pub good : CanGoOn before
  pub stops : ¬ CanGoOn (before ++ bad ∷ [])

-- the first word is this one, whatever follows
abbrev pub BeginsWith : Lexeme → List Spelled → Type 0
BeginsWith lexeme [] = ⊥
BeginsWith lexeme (t ∷ ts) = Says lexeme t

-- A statement of a module may come: some wire could stand there.
pub record IsModulePlace (before : List Line) : Type 0 where
  pub some : Line
  pub is_wire : BeginsWith (key Wire) some.tokens
  pub could : CanGoOn (before ++ some ∷ [])

-- an option that a wire may have
abbrev pub is_supported : WireOption → Bool
is_supported (Inout z) = false
is_supported option = true

-- A wire with `inout` that could stand there without it.
pub record IsInoutWire (before : List Line) (bad : Line) : Type 0 where
  pub options : List WireOption
  pub name : List ℕ
  pub written : AreSaid (wire_lexemes options name) bad.tokens
  pub has_inout : (options_said options).inout ≡ true
  pub without : Line
  pub without_written : AreSaid (wire_lexemes (filter is_supported options) name) without.tokens
  pub could : CanGoOn (before ++ without ∷ [])

-- A memory or a process at a place of a module's statements, or a wire with `inout`.
abbrev pub IsUnsupported : List Line → Line → Type 0
IsUnsupported before bad =
    (IsModulePlace before × (BeginsWith (key Memory) bad.tokens ⊎ BeginsWith (key Process) bad.tokens))
    ⊎ IsInoutWire before bad

-- A statement is the first bad one, and is unsupported.
pub record HasUnsupported (bytes : List ℕ) (line : ℕ) : Type 0 where
  pub lines : List Line
  pub end_line : ℕ
  pub are_lines : AreLines bytes lines end_line
  pub before : List Line
  pub bad : Line
  pub first : IsFirstBad lines before bad
  pub unsupported : IsUnsupported before bad
  pub line_is : line ≡ bad.number

-- A statement is the first bad one, and is not unsupported.
pub record HasBadStatement (lines : List Line) (line : ℕ) : Type 0 where
  pub before : List Line
  pub bad : Line
  pub first : IsFirstBad lines before bad
  pub no_form : ¬ IsUnsupported before bad
  pub line_is : line ≡ bad.number

-- No statement is bad, but something is missing at the end.
pub record IsCutShort (lines : List Line) : Type 0 where
  pub good : CanGoOn lines
  pub missing : (tree : Tree) → ¬ IsTreeText lines tree

pub record HasBadForm (bytes : List ℕ) (line : ℕ) : Type 0 where
  pub lines : List Line
  pub end_line : ℕ
  pub are_lines : AreLines bytes lines end_line
  pub bad : HasBadStatement lines line ⊎ (IsCutShort lines × (line ≡ end_line))

-- The tree that the text stands for has no top module.
pub record HasNoTop (bytes : List ℕ) : Type 0 where
  pub tree : Tree
  pub stands : Stands bytes tree
  pub none : top_of tree ≡ None

-- the refusal that is due for the text, if it is one of those that reading gives
abbrev pub IsRefused : List ℕ → Refusal → Type 0
IsRefused bytes (BadToken line) = HasBadToken bytes line
IsRefused bytes (BadForm line) = HasBadForm bytes line
IsRefused bytes (UnsupportedStatement line) = HasUnsupported bytes line
IsRefused bytes NoTop = HasNoTop bytes
IsRefused bytes refusal = ⊥
