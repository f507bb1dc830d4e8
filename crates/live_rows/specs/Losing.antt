-- What holds while rows are lost: rows that have no parent left and are live no longer, but still count as parents of
-- their sides.
use Rattle.std.specs.Prelude.{ℕ, ◌≡◌, ◌+◌, ◌-◌, ◌<◌, ◌==◌, ◌⊎◌, Bool, not, ◌&&◌, ◌||◌, nat_lt, true, if◌then◌else◌, IsTrue, IsFalse, List, ◌∷◌, length, bit_xor}
use Rattle.expr_table.specs.declared.node.Node.{Node}
use Rattle.expr_table.specs.Table.{has}
use Rattle.once_random.specs.Live.{AreAmong}
use Rattle.once_random.specs.Numbers.{count_below}
use Rattle.live_rows.specs.declared.mark.Mark.{Mark}
use Rattle.live_rows.specs.Lists.{Held, are_distinct}
use Rattle.live_rows.specs.Marks.{mark_at, queued_count, is_spare, is_lone}
use Rattle.live_rows.specs.Spread.{IsCounted, offered}
use Rattle.live_rows.specs.State.{IsQueue}

-- the mark with one parent fewer; the row stays live where it is a root or has another
abbrev pub without_parent : ℕ → Mark → Mark
without_parent parent mark = record mark { parents = mark.parents - 1; mixed = bit_xor mark.mixed parent; live = mark.root || nat_lt 0 (mark.parents - 1) }

-- the mark of a row once a row is its parent no longer, if that one reads it; it is queued where it now may serve a cut
abbrev pub freed : Bool → ℕ → Mark → Mark
freed is_read parent mark =
    if is_read then offered (is_lone (without_parent parent mark)) (without_parent parent mark) else mark

-- the mark of a row that is cut
abbrev pub as_cut : Mark → Mark
as_cut mark = record mark { cut = true; fresh = true }

-- the row is live, and has a parent
pub record IsRead (marks : List Mark) (row : ℕ) : Type 0 where
  pub within : row < length marks
  pub live : IsTrue (mark_at marks row).live
  pub some : 0 < (mark_at marks row).parents

-- the lists have room for each row; those lost are rows, each once, and live no longer
pub record IsLosing (marks : List Mark) (alone lost : Held) : Type 0 where
  pub queue : IsQueue marks alone.numbers
  pub alone_room : alone.room ≡ length marks
  pub lost_room : lost.room ≡ length marks
  pub distinct : IsTrue (are_distinct lost.numbers)
  pub within : (row : ℕ) → IsTrue (has lost.numbers row) → row < length marks
  pub gone : (row : ℕ) → IsTrue (has lost.numbers row) → IsFalse (mark_at marks row).live

-- the row is spare and is read by one row alone
abbrev pub is_serving : Mark → Bool
is_serving mark = is_spare mark && (mark.parents == 1)

-- Roots, cuts and what is fresh stay, and so does all of a row that is not live. Each row that newly may serve a cut is put
-- on the list, which keeps its rows and grows by as many as are queued.
pub record Loses (old : List Mark) (before : List ℕ) (new : List Mark) (after : List ℕ) : Type 0 where
  pub rows : length new ≡ length old
  pub root : (row : ℕ) → (mark_at new row).root ≡ (mark_at old row).root
  pub cut : (row : ℕ) → (mark_at new row).cut ≡ (mark_at old row).cut
  pub fresh : (row : ℕ) → (mark_at new row).fresh ≡ (mark_at old row).fresh
  pub touched : (row : ℕ) → (mark_at new row).touched ≡ (mark_at old row).touched
  pub rest : (row : ℕ) → IsFalse (mark_at old row).live → mark_at new row ≡ mark_at old row
  pub alone : AreAmong before after
  pub served : (row : ℕ) → IsTrue (is_serving (mark_at new row))
      → IsTrue (is_serving (mark_at old row)) ⊎ IsTrue (has after row)
  pub queued : queued_count new + length before ≡ queued_count old + length after

-- how many rows are marked live
abbrev pub marked_live : List Mark → ℕ
marked_live marks = count_below (length marks) (λ row. (mark_at marks row).live)

-- the rows that are live or lost are the same
pub record KeepsHeld (old : List Mark) (before : List ℕ) (new : List Mark) (after : List ℕ) : Type 0 where
  pub each : (row : ℕ) → ((mark_at new row).live || has after row) ≡ ((mark_at old row).live || has before row)
  pub count : marked_live new + length after ≡ marked_live old + length before

-- the row counts as a parent of its sides: it is live or lost, and not cut
abbrev pub is_counting : List Mark → List ℕ → ℕ → Bool
is_counting marks lost row = ((mark_at marks row).live || has lost row) && not (mark_at marks row).cut

-- the row was lost and was taken from the list, and still counts as a parent of its sides
pub record IsTaken (nodes : List Node) (marks : List Mark) (lost : List ℕ) (row : ℕ) : Type 0 where
  pub within : row < length marks
  pub gone : IsFalse (mark_at marks row).live
  pub taken : IsFalse (has lost row)
  pub counted : IsCounted nodes (is_counting marks (row ∷ lost)) marks

-- the marks say the same of counts, of being live and of being a root
pub record CountsAs (mark other : Mark) : Type 0 where
  pub parents : mark.parents ≡ other.parents
  pub mixed : mark.mixed ≡ other.mixed
  pub live : mark.live ≡ other.live
  pub root : mark.root ≡ other.root

-- One row is cut and so fresh; roots stay, and so does all of another row that is not live. Each row that newly may serve a
-- cut is put on the list, which keeps its rows and grows by as many as are queued.
pub record Cuts (row : ℕ) (old : List Mark) (before : List ℕ) (new : List Mark) (after : List ℕ) : Type 0 where
  pub rows : length new ≡ length old
  pub root : (other : ℕ) → (mark_at new other).root ≡ (mark_at old other).root
  pub cut : (other : ℕ) → (mark_at new other).cut ≡ ((row == other) || (mark_at old other).cut)
  pub fresh : (other : ℕ) → (mark_at new other).fresh ≡ ((row == other) || (mark_at old other).fresh)
  pub touched : (other : ℕ) → (mark_at new other).touched ≡ (mark_at old other).touched
  pub rest : (other : ℕ) → IsFalse (row == other) → IsFalse (mark_at old other).live → mark_at new other ≡ mark_at old other
  pub alone : AreAmong before after
  pub served : (other : ℕ) → IsTrue (is_serving (mark_at new other))
      → IsTrue (is_serving (mark_at old other)) ⊎ IsTrue (has after other)
  pub queued : queued_count new + length before ≡ queued_count old + length after
