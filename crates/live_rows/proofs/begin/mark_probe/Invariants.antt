use Rattle.std.proofs.Common.{◌≡◌, ℕ, take}
use Rattle.expr_table.specs.Table.{has, numbers}
use Rattle.live_rows.specs.Marks.{mark_at}
use Rattle.live_rows.specs.Spread.{rooted}
use Rattle.live_rows.specs.State.{IsFound}
use Rattle.live_rows.proofs.begin.mark_probe.Given as goal

-- the rows so far are roots
abbrev pub invariant-loop-row : goal.invariant-loop-row
invariant-loop-row l = record {
  marks : (row : ℕ) → mark_at l.marks row ≡ rooted (has (numbers (take l.row-index l.rows)) row) (mark_at l.fn.marks row);
  found : IsFound l.marks l.found.numbers;
  room : l.found.room ≡ l.fn.found.room;
}
