use Rattle.std.proofs.Common.{◌≡◌, ℕ, take}
use Rattle.expr_table.specs.Table.{has}
use Rattle.live_rows.specs.Marks.{mark_at}
use Rattle.live_rows.specs.Spread.{offered, is_offered}
use Rattle.live_rows.specs.State.{IsQueue}
use Rattle.live_rows.proofs.begin.offer_all.Given as goal

-- the rows so far were offered
abbrev pub invariant-loop-place : goal.invariant-loop-place
invariant-loop-place l = record {
  marks : (row : ℕ) → mark_at l.marks row ≡ offered (is_offered l.fn.marks (take l.place l.found.numbers) row) (mark_at l.fn.marks row);
  alone : (row : ℕ) → has l.alone.numbers row ≡ is_offered l.fn.marks (take l.place l.found.numbers) row;
  queue : IsQueue l.marks l.alone.numbers;
  room : l.alone.room ≡ l.fn.alone.room;
}
