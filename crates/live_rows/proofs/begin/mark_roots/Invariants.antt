use Rattle.std.proofs.Common.{◌≡◌, ◌-◌, ◌≤◌, ℕ, length}
use Rattle.expr_table.specs.Table.{has}
use Rattle.bit_rows.specs.Sets.{members_below}
use Rattle.once_random.specs.Tuples.{roots_over}
use Rattle.live_rows.specs.Marks.{mark_at}
use Rattle.live_rows.specs.Spread.{rooted}
use Rattle.live_rows.specs.State.{IsFound}
use Rattle.live_rows.proofs.begin.mark_roots.Given as goal

-- the rows of the members before `start` are roots
abbrev pub invariant-loop-probe : goal.invariant-loop-probe
invariant-loop-probe l = record {
  marks : (row : ℕ) → mark_at l.marks row ≡ rooted (has (roots_over l.probes (members_below l.chosen l.start)) row) (mark_at l.fn.marks row);
  found : IsFound l.marks l.found.numbers;
  room : l.found.room ≡ l.fn.found.room;
  within : l.start ≤ length l.chosen;
}

abbrev pub decreases-loop-probe : goal.decreases-loop-probe
decreases-loop-probe l = length l.chosen - l.start
