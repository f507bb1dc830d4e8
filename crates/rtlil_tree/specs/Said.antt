-- How the reader goes from a token to what it says; the definition is in Lexemes.antt.
use Rattle.std.specs.Prelude.{ℕ, ◌+◌, ◌-◌, ◌*◌, ◌%◌, ◌^◌, ◌==◌, ◌≡◌, not, nat_le, nat_lt, if◌then◌else◌, Bool, false, ℤ, pos, neg_ℤ, List, [], ◌∷◌, ◌++◌, length, map, find, slice_range, take, drop, Option, Some, None, Result, Ok, Err, option_map, option_and_then}
use Rattle.std.specs.List.{prefix_len}
use Rattle.std.specs.Str.{bytes_eq}
use Rattle.rtlil_lex.specs.Bytes.{is_octal}
use Rattle.rtlil_lex.specs.declared.token.TokenKind.{TokenKind}
use Rattle.rtlil_lex.specs.declared.token.TokenKind.TheVariants as kind
use Rattle.circuit_types.specs.declared.signal.BitValue.{BitValue}
use Rattle.circuit_types.specs.declared.signal.BitValue.TheVariants.{Zero, One, X, Z, M, Dash}
use Rattle.circuit_types.specs.declared.signal.Value.TheVariants as value
use Rattle.rtlil_tree.specs.declared.keyword.Keyword.{Keyword}
use Rattle.rtlil_tree.specs.declared.keyword.Keyword.TheVariants.{Attribute, Autoidx, Cell, Connect, End, Inout, Input, Memory, Module, Offset, Output, Parameter, Process, Real, Signed, Upto, Width, Wire}
use Rattle.rtlil_tree.specs.declared.misfit.Misfit.{Misfit}
use Rattle.rtlil_tree.specs.declared.misfit.Misfit.TheVariants as misfit
use Rattle.rtlil_tree.specs.declared.string.Escape.{Escape}
use Rattle.rtlil_tree.specs.declared.string.Escape.TheVariants as escape
use Rattle.rtlil_tree.specs.declared.word.Word.{Word}
use Rattle.rtlil_tree.specs.declared.word.Word.TheVariants as word
use Rattle.rtlil_tree.specs.Lexemes.{Lexeme, key, id, constant, open_slice, close_slice, open_join, close_join, colon, Spelled, spelling, decimal}

infixl 10 ◌>>=◌
abbrev pub ◌>>=◌ : {A B : Type 0} → Option A → (A → Option B) → Option B
o >>= f = option_and_then f o

-- What a function returned, seen by view, is what reading gives, unless memory ran out.
abbrev pub Stops : {Y : Type 0} → Misfit → Option Y → Type 0
Stops misfit.NoMemory read = Unit {0}
Stops misfit.NoForm read = read ≡ None

abbrev pub Gives : {X Y : Type 0} → (X → Y) → Result X Misfit → Option Y → Type 0
Gives view (Ok x) read = read ≡ Some (view x)
Gives view (Err e) read = Stops e read

-- in the order in which they are tried
abbrev pub keywords : List Keyword
keywords = Connect ∷ End ∷ Cell ∷ Wire ∷ Attribute ∷ Parameter ∷ Width ∷ Input ∷ Output ∷ Module ∷ Offset ∷ Upto ∷ Signed ∷ Real ∷ Autoidx ∷ Memory ∷ Process ∷ Inout ∷ []

unfoldable pub keyword_of : List ℕ → Option Keyword
keyword_of text = find (λ k. bytes_eq text (spelling k)) keywords

-- the number of the digits, if it is at most `most`
unfoldable pub natural_of : List ℕ → ℕ → Option ℕ
natural_of digits most = if nat_le (decimal digits) most then Some (decimal digits) else None

abbrev pub is_negative : List ℕ → Bool
is_negative [] = false
is_negative (b ∷ bs) = b == 45

unfoldable pub integer_of : List ℕ → Option ℤ
integer_of text =
    if is_negative text then option_map (λ n. neg_ℤ (pos n)) (natural_of (drop 1 text) (2 ^ 31))
    else option_map (λ n. pos n) (natural_of text (2 ^ 31 - 1))

abbrev pub is_no_quote : ℕ → Bool
is_no_quote b = not (b == 39)

-- what stands before and after the first `'`
unfoldable pub at_quote : List ℕ → Option (List ℕ × List ℕ)
at_quote text =
    if nat_lt (prefix_len is_no_quote text) (length text) then Some (take (prefix_len is_no_quote text) text, drop (prefix_len is_no_quote text + 1) text) else None

abbrev pub without_sign : List ℕ → List ℕ
without_sign [] = []
without_sign (b ∷ bs) = if b == 115 then bs else b ∷ bs

abbrev pub bit_of : ℕ → BitValue
bit_of b = if b == 48 then Zero else (if b == 49 then One else (if b == 120 then X else (if b == 122 then Z else (if b == 109 then M else Dash))))

-- the constant of this width with these bits
abbrev pub bits : ℕ → List ℕ → Lexeme
bits width written = constant (value.Bits (record { width = width; written = map bit_of written }))

unfoldable pub bits_of : List ℕ → Option Lexeme
bits_of text = at_quote text >>= λ parts. natural_of parts.0 1048576 >>= λ width.
    if nat_le (length (without_sign parts.1)) width then Some (bits width (without_sign parts.1)) else None

-- the byte that a byte other than an octal digit gives after a backslash
abbrev pub letter_of : ℕ → ℕ
letter_of b = if b == 110 then 10 else (if b == 116 then 9 else b)

-- with one more octal digit
abbrev pub with_digit : ℕ → ℕ → ℕ
with_digit n digit = (8 * n + (digit - 48)) % 256

-- what stands before the next byte then, and what is given
abbrev pub plain_step : ℕ → Escape × List ℕ
plain_step b = if b == 92 then (escape.Begun, []) else (escape.None, b ∷ [])

abbrev pub escape_step : Escape → ℕ → Escape × List ℕ
escape_step escape.None b = plain_step b
escape_step escape.Begun b = if is_octal b then (escape.One (with_digit 0 b), []) else (escape.None, letter_of b ∷ [])
escape_step (escape.One n) b = if is_octal b then (escape.Two (with_digit n b), []) else ((plain_step b).0, n ∷ (plain_step b).1)
escape_step (escape.Two n) b = if is_octal b then (escape.None, with_digit n b ∷ []) else ((plain_step b).0, n ∷ (plain_step b).1)

abbrev pub escape_end : Escape → List ℕ
escape_end escape.None = []
escape_end escape.Begun = []
escape_end (escape.One n) = n ∷ []
escape_end (escape.Two n) = n ∷ []

-- the bytes that the rest of a string gives
unfoldable pub text_from : Escape → List ℕ → List ℕ
text_from e [] = escape_end e
text_from e (b ∷ bs) = (escape_step e b).1 ++ text_from (escape_step e b).0 bs

-- the text that a string gives, without its quotes
abbrev pub text : List ℕ → Lexeme
text raw = constant (value.Text (text_from escape.None raw))

-- what stands between the first and the last byte
unfoldable pub string_of : List ℕ → Option Lexeme
string_of spelled = if nat_le 2 (length spelled) then Some (text (slice_range spelled 1 (length spelled - 1))) else None

abbrev pub mark_of : ℕ → Option Lexeme
mark_of b = if b == 91 then Some open_slice else (if b == 93 then Some close_slice else (if b == 123 then Some open_join else (if b == 125 then Some close_join else (if b == 58 then Some colon else None))))

-- what a token of this kind and text says
unfoldable pub said : TokenKind → List ℕ → Option Lexeme
said kind.Word spelled = option_map key (keyword_of spelled)
said kind.Id spelled = Some (id spelled)
said kind.Int spelled = option_map (λ n. constant (value.Number n)) (integer_of spelled)
said kind.Bits spelled = bits_of spelled
said kind.Str spelled = string_of spelled
said (kind.Mark b) spelled = mark_of b
said kind.Eol spelled = None

-- what a token says, if it says anything
abbrev pub said_by : Spelled → Option Lexeme
said_by t = said t.kind t.text

-- what each token says
unfoldable pub lexemes_of : List Spelled → Option (List Lexeme)
lexemes_of [] = Some []
lexemes_of (t ∷ ts) = said_by t >>= λ x. lexemes_of ts >>= λ xs. Some (x ∷ xs)

-- what a word of the reader says
abbrev pub plain : Word → Lexeme
plain (word.Key k) = key k
plain (word.Id name) = id name.now
plain (word.Int n) = constant (value.Number n)
plain (word.Bits width written) = bits width written.now
plain (word.Str raw) = text raw.now
plain word.OpenSlice = open_slice
plain word.CloseSlice = close_slice
plain word.OpenJoin = open_join
plain word.CloseJoin = close_join
plain word.Colon = colon
