-- When a list of tokens is that of given bytes, and which fault bytes without tokens have.
use Rattle.std.specs.Prelude.{◌≡◌, ℕ, ◌+◌, ◌-◌, ◌<◌, ◌≤◌, Bool, not, ◌||◌, ◌==◌, ◌⊎◌, List, [], ◌∷◌, ◌++◌, length, take, drop, slice_range, IsTrue, Result, Ok, Err}
use Rattle.std.specs.declared.vec.Vec.{Vec}
use Rattle.std.specs.declared.alloc.Global.{Global}
use Rattle.std.specs.List.{count_by}
use Rattle.rtlil_lex.specs.Bytes.{NoneOrMore, is_blank, is_feed, is_inline, begins, is_line_end}
use Rattle.rtlil_lex.specs.Strings.{Character, text_of, AreCharacters, IsBadEscape, IsCutShort}
use Rattle.rtlil_lex.specs.Forms.{IsLongest, BeginsNoToken}
use Rattle.rtlil_lex.specs.declared.token.Token.{Token}
use Rattle.rtlil_lex.specs.declared.token.TokenKind.TheVariants.{Eol}
use Rattle.rtlil_lex.specs.declared.fault.LexFault.{LexFault}
use Rattle.rtlil_lex.specs.declared.fault.LexFault.TheVariants.{BadByte, OpenString, NoMemory}

-- a text has at most so many bytes
abbrev pub most_bytes : ℕ
most_bytes = 67108864

-- white space, or a `#`
abbrev pub begins_gap : List ℕ → Bool
begins_gap bytes = begins (λ b. is_blank b || b == 35) bytes

-- White space up to what is neither white space nor a comment; or white space and a comment, which is a
-- `#` and the bytes after it up to the line feed or the end.
abbrev pub IsGap : List ℕ → List ℕ → Type 0
IsGap gap next =
    (NoneOrMore is_blank gap × IsTrue (not (begins_gap next)))
    ⊎ ((blanks comment : List ℕ) × (gap ≡ blanks ++ 35 ∷ comment) × NoneOrMore is_blank blanks × NoneOrMore is_inline comment × IsTrue (is_line_end next))

-- one more than the line feeds before the place
abbrev pub line_at : List ℕ → ℕ → ℕ
line_at bytes place = 1 + count_by is_feed (take place bytes)

-- The token comes next after the place: a gap, and then the longest spelling of any form.
pub record ComesNext (bytes : List ℕ) (place : ℕ) (t : Token) : Type 0 where
  pub order : place ≤ t.start
  pub gap : IsGap (slice_range bytes place t.start) (drop t.start bytes)
  pub spelling : IsLongest t.kind (t.end - t.start) (drop t.start bytes)
  pub line : t.line ≡ line_at bytes t.start

-- Nothing but a gap comes after the place, and the token is the end of line that the end of input gives.
pub record ComesLast (bytes : List ℕ) (place : ℕ) (t : Token) : Type 0 where
  pub gap : IsGap (drop place bytes) []
  pub end_of_input : t ≡ record { kind = Eol; start = length bytes; end = length bytes; line = line_at bytes (length bytes) }

-- the tokens, each next after the one before, from one place to another
abbrev pub LeadTo : List ℕ → ℕ → List Token → ℕ → Type 0
LeadTo bytes place [] last = place ≡ last
LeadTo bytes place (t ∷ ts) last = ComesNext bytes place t × LeadTo bytes t.end ts last

-- The list is that of the bytes: tokens from the beginning on, and the one of the end of input.
pub record AreTokens (bytes : List ℕ) (tokens : List Token) : Type 0 where
  pub before : List Token
  pub end_token : Token
  pub place : ℕ
  pub all : tokens ≡ before ++ end_token ∷ []
  pub lead : LeadTo bytes 0 before place
  pub last : ComesLast bytes place end_token

-- the bytes are a double quote, characters, and a rest
pub record IsString (bytes : List ℕ) (characters : List Character) (rest : List ℕ) : Type 0 where
  pub text : bytes ≡ 34 ∷ text_of characters ++ rest
  pub each : AreCharacters characters rest

-- what begins no token though it is no double quote
pub record IsStray (bytes : List ℕ) : Type 0 where
  pub some : 0 < length bytes
  pub no_quote : IsTrue (not (begins (λ b. b == 34) bytes))
  pub none : BeginsNoToken bytes

-- A string with an octal escape above 255, which begins `offset` bytes on. Whether the string is closed behind it
-- is not looked at: of the two faults this one is met first from the left.
pub record HasBadEscape (bytes : List ℕ) (offset : ℕ) : Type 0 where
  pub characters : List Character
  pub rest : List ℕ
  pub string : IsString bytes characters rest
  pub bad : IsBadEscape rest
  pub at : offset ≡ 1 + length (text_of characters)

-- The byte that fits no form is the first one, or the backslash of an escape in a string.
abbrev pub IsBadAt : List ℕ → ℕ → Type 0
IsBadAt bytes offset = ((offset ≡ 0) × IsStray bytes) ⊎ HasBadEscape bytes offset

-- a string that the line ends in
pub record IsOpen (bytes : List ℕ) : Type 0 where
  pub characters : List Character
  pub rest : List ℕ
  pub string : IsString bytes characters rest
  pub cut : IsCutShort rest

-- The tokens lead from the beginning to a place, and a gap from there to `start`.
pub record Reaches (bytes : List ℕ) (tokens : List Token) (start : ℕ) : Type 0 where
  pub place : ℕ
  pub lead : LeadTo bytes 0 tokens place
  pub order : place ≤ start
  pub gap : IsGap (slice_range bytes place start) (drop start bytes)

-- Behind tokens and a gap comes what begins no token, and the byte at the place is the first that fits no form.
pub record IsBadByte (bytes : List ℕ) (place : ℕ) : Type 0 where
  pub tokens : List Token
  pub start : ℕ
  pub offset : ℕ
  pub reach : Reaches bytes tokens start
  pub bad : IsBadAt (drop start bytes) offset
  pub at : place ≡ start + offset

-- Behind tokens and a gap a string begins at the place that is not closed on its line.
pub record IsOpenString (bytes : List ℕ) (place : ℕ) : Type 0 where
  pub tokens : List Token
  pub reach : Reaches bytes tokens place
  pub cut : IsOpen (drop place bytes)

-- the fault that the bytes have; want of memory is none of theirs
abbrev pub HasFault : List ℕ → LexFault → Type 0
HasFault bytes (BadByte place) = IsBadByte bytes place
HasFault bytes (OpenString place) = IsOpenString bytes place
HasFault bytes NoMemory = Unit {0}

-- the answer is these tokens, unless memory was refused
abbrev pub AnswersTokens : Result (Vec Token Global) LexFault → List Token → Type 0
AnswersTokens (Ok v) tokens = v.items ≡ tokens
AnswersTokens (Err NoMemory) tokens = Unit {0}
AnswersTokens (Err (BadByte place)) tokens = ⊥
AnswersTokens (Err (OpenString place)) tokens = ⊥

-- the answer is this fault, unless memory was refused
abbrev pub AnswersFault : Result (Vec Token Global) LexFault → LexFault → Type 0
AnswersFault (Ok v) fault = ⊥
AnswersFault (Err NoMemory) fault = Unit {0}
AnswersFault (Err (BadByte place)) fault = BadByte place ≡ fault
AnswersFault (Err (OpenString place)) fault = OpenString place ≡ fault
