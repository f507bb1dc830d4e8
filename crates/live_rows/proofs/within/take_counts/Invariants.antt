use Rattle.std.proofs.Common.{◌≡◌, ◌&&◌, nat_le, slice_index_or, length}
use Rattle.once_random.specs.Numbers.{all_below}
use Rattle.live_rows.specs.Tally.{IsTally}
use Rattle.live_rows.proofs.within.take_counts.Given as goal

-- the counts taken so far and those left are within the bound where all were
abbrev pub invariant-loop-group : goal.invariant-loop-group
invariant-loop-group l = record {
  tally : IsTally l.leaves l.counted.numbers;
  within : (l.few && all_below (length l.leaves) (λ group. nat_le (slice_index_or l.leaves group 0) l.bound))
      ≡ all_below (length l.fn.leaves) (λ group. nat_le (slice_index_or l.fn.leaves group 0) l.bound);
  room : l.counted.room ≡ l.fn.counted.room;
}

abbrev pub decreases-loop-group : goal.decreases-loop-group
decreases-loop-group l = length l.counted.numbers
