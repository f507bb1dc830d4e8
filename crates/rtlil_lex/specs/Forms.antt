-- The forms of tokens, as sets of spellings, after the Yosys RTLIL text representation.
use Rattle.std.specs.Prelude.{◌≡◌, ℕ, ◌≤◌, ◌||◌, ◌==◌, ◌⊎◌, List, [], ◌∷◌, ◌++◌, length, take, IsTrue}
use Rattle.rtlil_lex.specs.Bytes.{NoneOrMore, OneOrMore, is_letter, is_digit, is_sigil, is_name_byte, is_bit, is_mark}
use Rattle.rtlil_lex.specs.Strings.{Character, text_of, AreCharacters}
use Rattle.rtlil_lex.specs.declared.token.TokenKind.{TokenKind}
use Rattle.rtlil_lex.specs.declared.token.TokenKind.TheVariants.{Word, Id, Int, Bits, Str, Mark, Eol}

-- a backslash or `$`, and one or more bytes other than white space and line feed
abbrev pub IsId : List ℕ → Type 0
IsId [] = ⊥
IsId (b ∷ bs) = IsTrue (is_sigil b) × OneOrMore is_name_byte bs

-- an optional `-`, and one or more digits
abbrev pub IsInt : List ℕ → Type 0
IsInt [] = ⊥
IsInt (b ∷ bs) = OneOrMore is_digit (b ∷ bs) ⊎ ((b ≡ 45) × OneOrMore is_digit bs)

-- an optional `s`, and none or more of `0 1 x z m -`
abbrev pub IsValue : List ℕ → Type 0
IsValue [] = Unit {0}
IsValue (b ∷ bs) = IsTrue (b == 115 || is_bit b) × NoneOrMore is_bit bs

-- one or more digits, `'`, and a value
abbrev pub IsBits : List ℕ → Type 0
IsBits s = (width value : List ℕ) × (s ≡ width ++ 39 ∷ value) × OneOrMore is_digit width × IsValue value

-- a double quote, characters, and a double quote
abbrev pub IsStr : List ℕ → Type 0
IsStr s = (characters : List Character) × (s ≡ 34 ∷ text_of characters ++ 34 ∷ []) × AreCharacters characters (34 ∷ [])

-- the spellings of each kind of token; that of an end of line is the line feed
unfoldable pub HasForm : TokenKind → List ℕ → Type 0
HasForm Word s = OneOrMore is_letter s
HasForm Id s = IsId s
HasForm Int s = IsInt s
HasForm Bits s = IsBits s
HasForm Str s = IsStr s
HasForm (Mark b) s = (s ≡ b ∷ []) × IsTrue (is_mark b)
HasForm Eol s = s ≡ 10 ∷ []

-- The first `size` bytes have the form, and no more of them have any form.
pub record IsLongest (kind : TokenKind) (size : ℕ) (bytes : List ℕ) : Type 0 where
  pub within : size ≤ length bytes
  pub form : HasForm kind (take size bytes)
  pub longest : (other : TokenKind) (more : ℕ) → more ≤ length bytes → HasForm other (take more bytes) → more ≤ size

-- no token begins here
abbrev pub BeginsNoToken : List ℕ → Type 0
BeginsNoToken bytes = (kind : TokenKind) (size : ℕ) → HasForm kind (take size bytes) → ⊥
