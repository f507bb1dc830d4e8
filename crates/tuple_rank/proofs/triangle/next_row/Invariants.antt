use Rattle.std.proofs.Common.{◌≡◌, ℕ, ◌+◌, ◌<◌, ◌∷◌, length, slice_index}
use Rattle.tuple_rank.proofs.triangle.next_row.Given as goal

abbrev pub invariant-loop-k : goal.invariant-loop-k
invariant-loop-k l = record {
  len : length l.next ≡ 8;
  before_is : l.before ≡ slice_index (1 ∷ l.row) l.k;
  sums : (j : ℕ) → j < l.k → slice_index l.next j ≡ slice_index (1 ∷ l.row) j + slice_index l.row j;
}
