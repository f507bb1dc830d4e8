use Rattle.std.proofs.Common.{◌≡◌, ℕ, ◌<◌, ◌≤◌, slice_index, bit_and}
use Rattle.std.specs.Int.{bit_not, w64}
use Rattle.bit_rows.proofs.words.clear_all.Given as goal

-- the words before k are changed, and the others are as they were
abbrev pub invariant-loop-k : goal.invariant-loop-k
invariant-loop-k l = record {
  done : (k : ℕ) → k < l.k → slice_index l.words k ≡ bit_and (slice_index l.initial.words k) (bit_not w64 (slice_index l.other k));
  rest : (k : ℕ) → l.k ≤ k → slice_index l.words k ≡ slice_index l.initial.words k;
}
