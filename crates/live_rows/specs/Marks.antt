-- The marks of rows, one for each row.
use Rattle.std.specs.Prelude.{ℕ, ◌==◌, false, not, Bool, ◌&&◌, List, length, slice_index_or}
use Rattle.live_rows.specs.declared.mark.Mark.{Mark}
use Rattle.once_random.specs.Numbers.{count_below}

-- the mark of a row of which nothing is known
abbrev pub empty_mark : Mark
empty_mark = record { parents = 0; mixed = 0; root = false; live = false; cut = false; fresh = false; queued = false; touched = false }

-- the mark of a row
abbrev pub mark_at : List Mark → ℕ → Mark
mark_at marks row = slice_index_or marks row empty_mark

-- how many rows are queued
abbrev pub queued_count : List Mark → ℕ
queued_count marks = count_below (length marks) (λ row. (mark_at marks row).queued)

-- the row is fresh and no root, so that it may serve a cut once one row alone reads it
abbrev pub is_spare : Mark → Bool
is_spare mark = mark.fresh && not mark.root

-- the row is spare, is read by one row alone and was not queued yet
abbrev pub is_lone : Mark → Bool
is_lone mark = ((mark.fresh && not mark.root) && (mark.parents == 1)) && not mark.queued
