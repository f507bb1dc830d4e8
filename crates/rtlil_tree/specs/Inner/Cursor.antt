-- The lines that the reader has left, in the words of Lines.antt.
use Rattle.std.specs.Prelude.{◌≡◌, ℕ, ◌+◌, ◌-◌, ◌*◌, ◌^◌, ◌<◌, ◌≤◌, not, Bool, true, false, List, [], ◌∷◌, ◌++◌, map, take, drop, length, slice_get, slice_range, Option, Some, None, Result, Ok, Err}
use Rattle.rtlil_lex.specs.Tokens.{AreTokens, line_at}
use Rattle.rtlil_lex.specs.declared.token.Token.{Token}
use Rattle.rtlil_lex.specs.declared.fault.LexFault.{LexFault}
use Rattle.rtlil_lex.specs.declared.fault.LexFault.TheVariants as fault
use Rattle.circuit_types.specs.declared.refusal.Refusal.TheVariants.{BadToken}
use Rattle.circuit_types.specs.declared.refusal.Stop.{Stop}
use Rattle.circuit_types.specs.declared.refusal.Stop.TheVariants.{Refused, NoMemory}
use Rattle.rtlil_tree.specs.declared.line.Line.{Line}
use Rattle.rtlil_tree.specs.declared.part.Part.{Part}
use Rattle.rtlil_tree.specs.declared.lines.Lines.{Lines}
use Rattle.rtlil_tree.specs.Lines as text
use Rattle.rtlil_tree.specs.Lines.{spelled, lines_of, is_eol}
use Rattle.rtlil_tree.specs.Inner.Parts.{IsPart, moved, AreAhead, HasTokens}

abbrev pub is_inner : Token → Bool
is_inner t = not (is_eol t.kind)

abbrev pub line_view : Line → text.Line
line_view line = record { number = line.number; tokens = map (spelled line.bytes.now) line.tokens.now }

abbrev pub line_number : Option Token → ℕ
line_number None = 0
line_number (Some t) = t.line

-- the number of the line of the last token
abbrev pub last_line : List Token → ℕ
last_line tokens = line_number (slice_get tokens (length tokens - 1))

-- ---- parts

-- the line of the part that was read last
abbrev pub current_of : Part → text.Line
current_of p = record { number = p.number; tokens = map (spelled p.bytes.now) (slice_range p.tokens.items p.start p.end) }

-- the lines of the part that are left
unfoldable pub left_in : Part → List text.Line
left_in p = moved p.before (lines_of p.bytes.now (drop p.next p.tokens.items))

-- how many tokens of the part are left
abbrev pub tokens_left : Part → ℕ
tokens_left p = length p.tokens.items - p.next

-- A part of these bytes, before which so many lines stand.
pub record IsPartOf (bytes : List ℕ) (before : ℕ) (p : Part) : Type 0 where
  pub are_tokens : AreTokens bytes p.tokens.items
  pub begins : p.before ≡ before
  pub left : left_in p ≡ moved before (lines_of bytes p.tokens.items)

-- the next line of the part is taken from the front, if there is one
abbrev pub IsTakenIn : Part → Part → Bool → Type 0
IsTakenIn old new true = left_in old ≡ current_of new ∷ left_in new
IsTakenIn old new false = left_in old ≡ []

-- ---- texts

-- why a part has no tokens
abbrev pub part_stop : LexFault → ℕ → Stop
part_stop fault.NoMemory line = NoMemory
part_stop (fault.BadByte place) line = Refused (BadToken line)
part_stop (fault.OpenString place) line = Refused (BadToken line)

-- The lines of the text behind each place, and the number of the line on which it ends.
pub record Rest : Type 0 where
  pub ahead : ℕ → List text.Line
  pub end_line : ℕ

-- They are those of the bytes.
pub record IsRest (bytes : List ℕ) (rest : Rest) : Type 0 where
  pub are_ahead : AreAhead bytes rest.ahead
  pub end_is : rest.end_line ≡ line_at bytes (length bytes)

-- the lines that are left
unfoldable pub left_of : Rest → Lines → List text.Line
left_of rest lines = left_in lines.part ++ rest.ahead lines.place

-- The text, of which nothing was read.
pub record IsBegun (bytes : List ℕ) (lines : Lines) : Type 0 where
  pub same : lines.bytes.now ≡ bytes
  pub place : lines.place ≡ 0
  pub all : (rest : Rest) → left_of rest lines ≡ rest.ahead 0

-- the bytes and the tokens that are left; a byte counts for more than a part can have tokens
unfoldable pub work_of : Lines → ℕ
work_of lines = (length lines.bytes.now - lines.place) * 2 ^ 64 + tokens_left lines.part

-- The same text, read further; its bytes have tokens so far as it was read.
pub record GoesOn (old new : Lines) : Type 0 where
  pub bytes : new.bytes.now ≡ old.bytes.now
  pub less : work_of new ≤ work_of old
  pub tokens : HasTokens (take old.place old.bytes.now) → HasTokens (take new.place new.bytes.now)

-- The whole text was read.
pub record ReadsWhole (old new : Lines) : Type 0 where
  pub on : GoesOn old new
  pub at_end : new.place ≡ length new.bytes.now

-- The bytes from the place of the lines on are the next part.
pub record IsCut (lines : Lines) (piece : List ℕ) : Type 0 where
  pub some : 0 < length piece
  pub part : IsPart lines.bytes.now lines.place (lines.place + length piece)
  pub piece_is : piece ≡ slice_range lines.bytes.now lines.place (lines.place + length piece)

-- the next part was read: what stood behind the last one is left
unfoldable pub IsLoaded : Lines → Lines → Result (Unit {0}) Stop → Type 0
IsLoaded old new (Ok x) = (rest : Rest) → IsRest old.bytes.now rest → left_of rest new ≡ rest.ahead old.place
IsLoaded old new (Err e) = (rest : Rest) → IsRest old.bytes.now rest → e ≡ NoMemory

-- the next line is taken from the front, if there is one
abbrev pub Takes : Rest → Lines → Lines → Result Bool Stop → Type 0
Takes rest old new (Ok true) = left_of rest old ≡ current_of new.part ∷ left_of rest new
Takes rest old new (Ok false) = left_of rest old ≡ []
Takes rest old new (Err e) = e ≡ NoMemory

-- whatever the text is
unfoldable pub IsTaken : Lines → Lines → Result Bool Stop → Type 0
IsTaken old new result = (rest : Rest) → IsRest old.bytes.now rest → Takes rest old new result
