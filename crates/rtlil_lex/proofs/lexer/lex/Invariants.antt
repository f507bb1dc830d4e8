use Rattle.std.proofs.Common.{◌≡◌, ◌-◌, length}
use Rattle.rtlil_lex.specs.Tokens.{Reaches}
use Rattle.rtlil_lex.proofs.lexer.lex.Given as goal

abbrev pub invariant-loop-tokens : goal.invariant-loop-tokens
invariant-loop-tokens l = record {
  input : l.cursor.bytes.now ≡ l.bytes;
  reach : Reaches l.bytes l.tokens.items l.cursor.place;
}

abbrev pub decreases-loop-tokens : goal.decreases-loop-tokens
decreases-loop-tokens l = length l.bytes - l.cursor.place
