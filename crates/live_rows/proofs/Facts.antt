-- What callers cite of live rows that are kept.

-- lists of numbers, and a row that was taken out
pub use Rattle.live_rows.proofs.Numbers.{has_push, distinct_push, distinct_pop, length_is_count, taken-has, taken-length}
-- marks
pub use Rattle.live_rows.proofs.Marks.{mark_at-same, mark_at-other, mark_at-past, row_within}
-- counts of numbers that pass, and the exclusive or of them
pub use Rattle.live_rows.proofs.Counts.{count_more, count_exists, mixed_more, mixed_less, mixed_same}
-- what marks say of the rows that are live
pub use Rattle.live_rows.proofs.Counted.{roots_within, cuts_within, settle, unsettle}
-- one more cut: no more rows are live, and no row has more live parents; the same where the row is not live
pub use Rattle.live_rows.proofs.Fewer.{live_parent-fewer, live_parents-fewer, live_count-fewer, live_parent-same, live_parents-same, live_count-same}
