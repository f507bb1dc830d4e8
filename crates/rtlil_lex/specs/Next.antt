-- What the private functions answer, in the words of the public definitions.
use Rattle.std.specs.Prelude.{◌≡◌, ℕ, ◌<◌, ◌+◌, ◌-◌, List, [], ◌∷◌, ◌++◌, length, drop, Result, Ok, Err, ◌==◌, if◌then◌else◌}
use Rattle.std.specs.List.{prefix_len}
use Rattle.rtlil_lex.specs.Bytes.{is_bit}
use Rattle.rtlil_lex.specs.Strings.{Character, spelling_of, text_of, IsCharacter, IsBadEscape, IsCutShort}
use Rattle.rtlil_lex.specs.Forms.{IsLongest}
use Rattle.rtlil_lex.specs.Tokens.{line_at, IsString, IsBadAt, HasBadEscape, IsOpen}
use Rattle.rtlil_lex.specs.declared.token.Token.{Token}
use Rattle.rtlil_lex.specs.declared.token.TokenKind.{TokenKind}
use Rattle.rtlil_lex.specs.declared.token.TokenKind.TheVariants.{Eol}
use Rattle.rtlil_lex.specs.declared.fault.LexFault.{LexFault}
use Rattle.rtlil_lex.specs.declared.fault.LexFault.TheVariants as fault
use Rattle.rtlil_lex.specs.declared.spelling.Spelling.{Spelling}
use Rattle.rtlil_lex.specs.declared.spelling.Misfit.{Misfit}
use Rattle.rtlil_lex.specs.declared.spelling.Misfit.TheVariants.{BadByte, OpenString}
use Rattle.rtlil_lex.specs.declared.string.Piece.{Piece}
use Rattle.rtlil_lex.specs.declared.string.Piece.TheVariants as piece

-- what begins the bytes: the longest spelling, or why there is none
unfoldable pub IsNext : List ℕ → Result Spelling Misfit → Type 0
IsNext bytes (Ok s) = IsLongest s.kind s.size bytes
IsNext bytes (Err (BadByte offset)) = IsBadAt bytes offset
IsNext bytes (Err OpenString) = IsOpen bytes

-- a character of that many bytes comes first
pub record BeginsCharacter (bytes : List ℕ) (size : ℕ) : Type 0 where
  pub character : Character
  pub rest : List ℕ
  pub spelled : bytes ≡ spelling_of character ++ rest
  pub form : IsCharacter character rest
  pub length : size ≡ length (spelling_of character)

-- what stands first in what is left of a string
unfoldable pub IsPiece : List ℕ → Piece → Type 0
IsPiece bytes (piece.Character size) = BeginsCharacter bytes size
IsPiece bytes piece.Quote = (rest : List ℕ) × (bytes ≡ 34 ∷ rest)
IsPiece bytes piece.BadEscape = IsBadEscape bytes
IsPiece bytes piece.Cut = IsCutShort bytes

-- how many bytes of a value the bytes begin with
abbrev pub value_len : List ℕ → ℕ
value_len [] = 0
value_len (b ∷ bs) = if b == 115 then 1 + prefix_len is_bit bs else prefix_len is_bit (b ∷ bs)

-- how many bytes a string takes, or why it is none
unfoldable pub IsStringEnd : List ℕ → Result ℕ Misfit → Type 0
IsStringEnd bytes (Ok size) = (characters : List Character) × (rest : List ℕ) × IsString bytes characters (34 ∷ rest) × (size ≡ 2 + length (text_of characters))
IsStringEnd bytes (Err (BadByte offset)) = HasBadEscape bytes offset
IsStringEnd bytes (Err OpenString) = IsOpen bytes

-- The token stands at the place and ends where the cursor is then.
pub record IsTaken (bytes : List ℕ) (place after : ℕ) (t : Token) : Type 0 where
  pub start : t.start ≡ place
  pub end_place : t.end ≡ after
  pub order : place < after
  pub spelling : IsLongest t.kind (after - place) (drop place bytes)
  pub line : t.line ≡ line_at bytes place

-- what a step of the cursor from one place to another answers
unfoldable pub IsStep : List ℕ → ℕ → ℕ → Result Token LexFault → Type 0
IsStep bytes place after (Ok t) = IsTaken bytes place after t
IsStep bytes place after (Err (fault.BadByte at)) = (offset : ℕ) × (at ≡ place + offset) × IsBadAt (drop place bytes) offset
IsStep bytes place after (Err (fault.OpenString at)) = (at ≡ place) × IsOpen (drop place bytes)
IsStep bytes place after (Err fault.NoMemory) = ⊥

-- how many lines a token of the kind ends
abbrev pub feeds_of : TokenKind → ℕ
feeds_of Eol = 1
feeds_of _ = 0

-- how many bytes on the misfit is met
abbrev pub offset_of : Misfit → ℕ
offset_of (BadByte offset) = offset
offset_of OpenString = 0

-- the fault of a misfit at a place
abbrev pub fault_of : Misfit → ℕ → LexFault
fault_of (BadByte offset) place = fault.BadByte (place + offset)
fault_of OpenString place = fault.OpenString place
