-- What a text that is read part by part has in its parts.
use Rattle.std.proofs.Common.{◌≡◌, ℕ, ◌+◌, ◌-◌, ◌≤◌, List, [], take, length, ap}
use Rattle.std.specs.Prelude.{slice_range}
use Rattle.rtlil_lex.specs.Tokens.{AreTokens, line_at}
use Rattle.rtlil_lex.specs.declared.token.Token.{Token}
use Rattle.rtlil_tree.specs.Lines.{lines_of}
use Rattle.rtlil_tree.specs.Inner.Parts.{IsPart, ahead_of, AreAhead, HasTokens}
use Rattle.rtlil_tree.proofs.PartsBytes as places
use Rattle.rtlil_tree.proofs.PartsJoin.{join_parts, no_bytes}
use Rattle.rtlil_tree.proofs.PartsSplit.{from_start, split_parts}

-- the lines of the tokens behind each place are those ahead of it
pub split : (bytes : List ℕ) (tokens : List Token) → AreTokens bytes tokens → AreAhead bytes (ahead_of bytes tokens)
split bytes tokens h = split_parts bytes tokens h

-- at the beginning all lines are ahead
pub starts : (bytes : List ℕ) (tokens : List Token) → ahead_of bytes tokens 0 ≡ lines_of bytes tokens
starts bytes tokens = ap (lines_of bytes) (from_start tokens)

-- bytes with tokens, and a part with tokens behind them
pub join : (bytes : List ℕ) (from to : ℕ) → IsPart bytes from to → HasTokens (take from bytes) → HasTokens (slice_range bytes from to) → HasTokens (take to bytes)
join bytes from to part h k = join_parts bytes from to part h k

-- no bytes have one token, the end of input
pub none : HasTokens []
none = no_bytes

-- the number of the line on which a part ends, from that in the part
pub line_on : (bytes : List ℕ) (from to : ℕ) → from ≤ to → to ≤ length bytes → line_at bytes to ≡ (line_at bytes from - 1) + line_at (slice_range bytes from to) (length (slice_range bytes from to))
line_on bytes from to order within = places.line_on bytes from to order within
