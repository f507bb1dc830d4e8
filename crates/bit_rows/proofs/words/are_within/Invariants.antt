use Rattle.std.proofs.Common.{◌≡◌, ℕ, ◌<◌, ◌↔◌, slice_index, bit_and}
use Rattle.std.specs.Int.{bit_not, w64}
use Rattle.bit_rows.proofs.words.are_within.Given as goal

-- no word before k has a bit outside exactly where there is none so far
abbrev pub invariant-loop-k : goal.invariant-loop-k
invariant-loop-k l = (l.outside ≡ 0) ↔ ((k : ℕ) → k < l.k → bit_and (slice_index l.words k) (bit_not w64 (slice_index l.other k)) ≡ 0)
