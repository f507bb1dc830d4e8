-- A text read part by part, each a run of whole lines: what a part says of the lines of the text.
use Rattle.std.specs.Prelude.{◌≡◌, ℕ, ◌+◌, ◌-◌, ◌≤◌, ◌⊎◌, nat_le, List, [], ◌++◌, length, map, filter, slice_range, slice_index_or}
use Rattle.rtlil_lex.specs.Tokens.{AreTokens, HasFault, line_at}
use Rattle.rtlil_lex.specs.declared.token.Token.{Token}
use Rattle.rtlil_lex.specs.declared.fault.LexFault.{LexFault}
use Rattle.rtlil_lex.specs.declared.fault.LexFault.TheVariants.{NoMemory}
use Rattle.rtlil_tree.specs.Lines.{Line, lines_of}

-- a line begins at the place: it is the first, or behind a line feed
abbrev pub BeginsLine : List ℕ → ℕ → Type 0
BeginsLine bytes place = (place ≡ 0) ⊎ (slice_index_or bytes (place - 1) 0 ≡ 10)

-- The bytes from one place to another are whole lines, but that the text may end in the last one.
pub record IsPart (bytes : List ℕ) (from to : ℕ) : Type 0 where
  pub order : from ≤ to
  pub within : to ≤ length bytes
  pub begins : BeginsLine bytes from
  pub ends : BeginsLine bytes to ⊎ (to ≡ length bytes)

-- the lines, so many lines further down
abbrev pub moved : ℕ → List Line → List Line
moved k lines = map (λ (line : Line). record line { number = k + line.number }) lines

-- the lines of the tokens that begin at the place or behind it
abbrev pub ahead_of : List ℕ → List Token → ℕ → List Line
ahead_of bytes tokens place = lines_of bytes (filter (λ (t : Token). nat_le place t.start) tokens)

-- The lines ahead of each place, whatever tokens a part has.
pub record AreAhead (bytes : List ℕ) (ahead : ℕ → List Line) : Type 0 where
  pub parts : (from to : ℕ) (ts : List Token) → IsPart bytes from to → AreTokens (slice_range bytes from to) ts
      → ahead from ≡ moved (line_at bytes from - 1) (lines_of (slice_range bytes from to) ts) ++ ahead to
  pub whole : (from to : ℕ) (fault : LexFault) → IsPart bytes from to → HasFault (slice_range bytes from to) fault
      → fault ≡ NoMemory
  pub ends : ahead (length bytes) ≡ []

-- some list of tokens is that of the bytes
pub record HasTokens (bytes : List ℕ) : Type 0 where
  pub tokens : List Token
  pub are_tokens : AreTokens bytes tokens
