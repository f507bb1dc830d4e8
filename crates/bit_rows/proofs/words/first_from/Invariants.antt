use Rattle.std.proofs.Common.{◌≡◌, ℕ, ◌*◌, ◌<◌, ◌≤◌, false}
use Rattle.bit_rows.specs.Words.{words_bit}
use Rattle.bit_rows.proofs.words.first_from.Given as goal

-- no bit from start on and before word k is set
abbrev pub invariant-loop-k : goal.invariant-loop-k
invariant-loop-k l = record { past : l.start ≤ l.k * 64; none : (i : ℕ) → l.start ≤ i → i < l.k * 64 → words_bit l.words i ≡ false }
