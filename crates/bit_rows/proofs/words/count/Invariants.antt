use Rattle.std.proofs.Common.{◌≡◌, ◌*◌, ◌≤◌, length}
use Rattle.bit_rows.specs.Sets.{members_below}
use Rattle.bit_rows.specs.Words.{bits}
use Rattle.bit_rows.proofs.words.count.Given as goal

abbrev pub invariant-loop-word : goal.invariant-loop-word
invariant-loop-word l = record { counted : l.total ≡ length (members_below (bits l.words) (l.word-index * 64)); few : l.total ≤ l.word-index * 64 }
