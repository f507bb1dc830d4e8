use Rattle.std.proofs.Common.{◌+◌, ◌≤◌, length}
use Rattle.live_rows.specs.Losing.{IsLosing, Loses, is_counting, marked_live}
use Rattle.live_rows.specs.Spread.{IsCounted}
use Rattle.live_rows.proofs.cut.drop_lost.Given as goal

-- the marks are right for the rows live or lost, and each look takes one of these away
abbrev pub invariant-loop-row : goal.invariant-loop-row
invariant-loop-row g l = record {
  losing : IsLosing l.marks l.alone l.lost;
  counted : IsCounted (g.S.Looks.nodes l.source) (is_counting l.marks l.lost.numbers) l.marks;
  loses : Loses l.fn.marks l.fn.alone.numbers l.marks l.alone.numbers;
  cost : l.steps + (marked_live l.marks + length l.lost.numbers) ≤ l.fn.steps + (marked_live l.fn.marks + length l.fn.lost.numbers);
}

abbrev pub decreases-loop-row : goal.decreases-loop-row
decreases-loop-row g l = marked_live l.marks + length l.lost.numbers
