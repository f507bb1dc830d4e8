-- The statements of a text, as its tokens up to each end of line.
use Rattle.std.specs.Prelude.{◌≡◌, ℕ, Bool, true, false, if◌then◌else◌, List, [], ◌∷◌, ◌++◌, map, slice_range, length}
use Rattle.rtlil_lex.specs.Tokens.{AreTokens, line_at}
use Rattle.rtlil_lex.specs.declared.token.Token.{Token}
use Rattle.rtlil_lex.specs.declared.token.TokenKind.{TokenKind}
use Rattle.rtlil_lex.specs.declared.token.TokenKind.TheVariants.{Eol}
use Rattle.rtlil_tree.specs.Lexemes.{Spelled}

-- A statement: the number of its line, and its tokens.
pub record Line : Type 0 where
  pub number : ℕ
  pub tokens : List Spelled

abbrev pub is_eol : TokenKind → Bool
is_eol Eol = true
is_eol kind = false

abbrev pub with_first : Token → List (List Token) → List (List Token)
with_first t [] = (t ∷ []) ∷ []
with_first t (line ∷ lines) = (t ∷ line) ∷ lines

-- the tokens before each end of line, and those after the last
abbrev pub cut : List Token → List (List Token)
cut [] = [] ∷ []
cut (t ∷ ts) = if is_eol t.kind then [] ∷ cut ts else with_first t (cut ts)

abbrev pub spelled : List ℕ → Token → Spelled
spelled bytes t = record { kind = t.kind; text = slice_range bytes t.start t.end }

-- the line of its first token, and its tokens; a line without tokens is none
abbrev pub line_of : List ℕ → List Token → List Line
line_of bytes [] = []
line_of bytes (t ∷ ts) = record { number = t.line; tokens = map (spelled bytes) (t ∷ ts) } ∷ []

abbrev pub all_lines : List ℕ → List (List Token) → List Line
all_lines bytes [] = []
all_lines bytes (ts ∷ more) = line_of bytes ts ++ all_lines bytes more

abbrev pub lines_of : List ℕ → List Token → List Line
lines_of bytes tokens = all_lines bytes (cut tokens)

-- the lines of a text, and the number of the line on which it ends
pub record AreLines (bytes : List ℕ) (lines : List Line) (end_line : ℕ) : Type 0 where
  pub tokens : List Token
  pub are_tokens : AreTokens bytes tokens
  pub lines_are : lines ≡ lines_of bytes tokens
  pub end_is : end_line ≡ line_at bytes (length bytes)
