use Rattle.std.proofs.Common.{◌≡◌, ◌≤◌, ◌+◌}
use Rattle.live_rows.specs.Tally.{IsTally}
use Rattle.live_rows.proofs.Tally.{Counted}
use Rattle.live_rows.proofs.within.count_leaves.Given as goal

-- the leaves among the rows so far are counted
abbrev pub invariant-loop-place : goal.invariant-loop-place
invariant-loop-place g l = record {
  counts : Counted (g.S.Looks.nodes l.source) l.groups l.marks l.found.numbers l.leaves l.place;
  tally : IsTally l.leaves l.counted.numbers;
  room : l.counted.room ≡ l.fn.counted.room;
  cost : l.steps ≤ l.fn.steps + l.place;
}
