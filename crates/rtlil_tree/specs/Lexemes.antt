-- What a token says in a statement, and how it is spelled.
use Rattle.std.specs.Prelude.{◌≡◌, ℕ, ◌+◌, ◌-◌, ◌*◌, ◌<◌, ◌≤◌, ◌^◌, ◌==◌, ◌⊎◌, if◌then◌else◌, ℤ, pos, neg_ℤ, List, [], ◌∷◌, ◌++◌, length, map, fold, codes}
use Rattle.rtlil_lex.specs.Bytes.{OneOrMore, is_digit}
use Rattle.rtlil_lex.specs.Forms.{IsId}
use Rattle.rtlil_lex.specs.Strings.{Character, text_of, AreCharacters}
use Rattle.rtlil_lex.specs.declared.token.TokenKind.{TokenKind}
use Rattle.rtlil_lex.specs.declared.token.TokenKind.TheVariants as kind
use Rattle.circuit_types.specs.declared.signal.BitValue.{BitValue}
use Rattle.circuit_types.specs.declared.signal.BitValue.TheVariants.{Zero, One, X, Z, M, Dash}
use Rattle.circuit_types.specs.declared.signal.Bits.{Bits}
use Rattle.circuit_types.specs.declared.signal.Value.{Value}
use Rattle.circuit_types.specs.declared.signal.Value.TheVariants as value
use Rattle.rtlil_tree.specs.declared.keyword.Keyword.{Keyword}
use Rattle.rtlil_tree.specs.declared.keyword.Keyword.TheVariants.{Attribute, Autoidx, Cell, Connect, End, Inout, Input, Memory, Module, Offset, Output, Parameter, Process, Real, Signed, Upto, Width, Wire}

-- A token says a word of a statement, an identifier, a constant, or a mark.
pub data Lexeme : Type 0 where
  key : Keyword → Lexeme
  id : List ℕ → Lexeme
  constant : Value → Lexeme
  open_slice : Lexeme
  close_slice : Lexeme
  open_join : Lexeme
  close_join : Lexeme
  colon : Lexeme

-- A token, as its kind and its text.
pub record Spelled : Type 0 where
  pub kind : TokenKind
  pub text : List ℕ

abbrev pub spelling : Keyword → List ℕ
spelling Attribute = codes "attribute"
spelling Autoidx = codes "autoidx"
spelling Cell = codes "cell"
spelling Connect = codes "connect"
spelling End = codes "end"
spelling Inout = codes "inout"
spelling Input = codes "input"
spelling Memory = codes "memory"
spelling Module = codes "module"
spelling Offset = codes "offset"
spelling Output = codes "output"
spelling Parameter = codes "parameter"
spelling Process = codes "process"
spelling Real = codes "real"
spelling Signed = codes "signed"
spelling Upto = codes "upto"
spelling Width = codes "width"
spelling Wire = codes "wire"

-- what decimal digits stand for
abbrev pub decimal : List ℕ → ℕ
decimal digits = fold (λ n digit. 10 * n + (digit - 48)) 0 digits

-- One or more digits, with or without a minus sign before them; from -2^31 to 2^31 - 1.
abbrev pub IsInteger : ℤ → List ℕ → Type 0
IsInteger n text =
    (OneOrMore is_digit text × (n ≡ pos (decimal text)) × (decimal text < 2 ^ 31))
    ⊎ ((digits : List ℕ) × (text ≡ 45 ∷ digits) × OneOrMore is_digit digits × (n ≡ neg_ℤ (pos (decimal digits))) × (decimal digits ≤ 2 ^ 31))

-- the byte that a bit is written as
abbrev pub bit_code : BitValue → ℕ
bit_code Zero = 48
bit_code One = 49
bit_code X = 120
bit_code Z = 122
bit_code M = 109
bit_code Dash = 45

-- The width in digits, a `'`, an `s` or none, and the written bits, of which there are at most as many as the
-- width, which is at most 1,048,576.
pub record AreBits (bits : Bits) (text : List ℕ) : Type 0 where
  pub digits : List ℕ
  pub sign : List ℕ
  pub spelled : text ≡ digits ++ 39 ∷ (sign ++ map bit_code bits.written)
  pub width_form : OneOrMore is_digit digits
  pub width_is : bits.width ≡ decimal digits
  pub sign_form : (sign ≡ []) ⊎ (sign ≡ codes "s")
  pub most : bits.width ≤ 1048576
  pub few : length bits.written ≤ bits.width

-- what octal digits stand for
abbrev pub octal_number : List ℕ → ℕ
octal_number digits = fold (λ n digit. 8 * n + (digit - 48)) 0 digits

-- The byte that a character gives: after a backslash, `n` is a line feed and `t` a tab, octal digits are a byte of
-- their value, and any other byte is itself.
abbrev pub byte_of : Character → ℕ
byte_of (Character.plain b) = b
byte_of (Character.escaped b) = if b == 110 then 10 else (if b == 116 then 9 else b)
byte_of (Character.octal digits) = octal_number digits

-- the bytes of the characters between double quotes
pub record IsText (bytes text : List ℕ) : Type 0 where
  pub characters : List Character
  pub spelled : text ≡ 34 ∷ (text_of characters ++ 34 ∷ [])
  pub form : AreCharacters characters (34 ∷ [])
  pub given : bytes ≡ map byte_of characters

-- the token spells the constant
abbrev pub IsConstant : Value → Spelled → Type 0
IsConstant (value.Bits bits) t = (t.kind ≡ kind.Bits) × AreBits bits t.text
IsConstant (value.Number n) t = (t.kind ≡ kind.Int) × IsInteger n t.text
IsConstant (value.Text bytes) t = (t.kind ≡ kind.Str) × IsText bytes t.text

-- the token says the lexeme
abbrev pub Says : Lexeme → Spelled → Type 0
Says (key word) t = (t.kind ≡ kind.Word) × (t.text ≡ spelling word)
Says (id name) t = (t.kind ≡ kind.Id) × (t.text ≡ name) × IsId name
Says (constant v) t = IsConstant v t
Says open_slice t = t.kind ≡ kind.Mark 91
Says close_slice t = t.kind ≡ kind.Mark 93
Says open_join t = t.kind ≡ kind.Mark 123
Says close_join t = t.kind ≡ kind.Mark 125
Says colon t = t.kind ≡ kind.Mark 58

-- each token says its lexeme, in order
abbrev pub AreSaid : List Lexeme → List Spelled → Type 0
AreSaid [] ts = ts ≡ []
AreSaid (lexeme ∷ lexemes) [] = ⊥
AreSaid (lexeme ∷ lexemes) (t ∷ ts) = Says lexeme t × AreSaid lexemes ts
