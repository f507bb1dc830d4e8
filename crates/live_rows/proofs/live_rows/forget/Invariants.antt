use Rattle.std.proofs.Common.{◌≡◌, ℕ, true, false, take}
use Rattle.expr_table.specs.Table.{has}
use Rattle.live_rows.specs.Marks.{mark_at, empty_mark}
use Rattle.live_rows.proofs.live_rows.forget.Given as goal

-- the marks of the rows so far are empty, and the others are as they were
abbrev pub invariant-loop-place : goal.invariant-loop-place
invariant-loop-place l = record {
  done : (row : ℕ) → has (take l.place l.found.numbers) row ≡ true → mark_at l.marks row ≡ empty_mark;
  same : (row : ℕ) → has (take l.place l.found.numbers) row ≡ false → mark_at l.marks row ≡ mark_at l.fn.marks row;
}
