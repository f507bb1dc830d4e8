-- What contracts see of the live rows, and what holds of every state.
use Rattle.std.specs.Prelude.{ℕ, ◌≡◌, ◌≤◌, ◌<◌, ◌^◌, false, IsTrue, List, [], length, slice_index_or}
use Rattle.expr_table.specs.Table.{has}
use Rattle.live_rows.specs.declared.mark.Mark.{Mark}
use Rattle.live_rows.specs.Lists.{Held, none_held, are_distinct}
use Rattle.live_rows.specs.Marks.{mark_at, empty_mark, is_spare}

-- the marks, the rows of which something is known, and the rows that may serve a cut and were not taken yet
pub record State : Type 0 where
  pub marks : List Mark
  pub found : List ℕ
  pub alone : List ℕ

-- the rows found are those touched, each once, and nothing is known of another
pub record IsFound (marks : List Mark) (found : List ℕ) : Type 0 where
  pub distinct : IsTrue (are_distinct found)
  pub each : (row : ℕ) → has found row ≡ (mark_at marks row).touched
  pub empty : (row : ℕ) → (mark_at marks row).touched ≡ false → mark_at marks row ≡ empty_mark

-- each row that may serve a cut stands once, and is queued; what is queued is spare and has at most one parent
pub record IsQueue (marks : List Mark) (alone : List ℕ) : Type 0 where
  pub distinct : IsTrue (are_distinct alone)
  pub queued : (row : ℕ) → IsTrue (has alone row) → IsTrue (mark_at marks row).queued
  pub spare : (row : ℕ) → IsTrue (mark_at marks row).queued → IsTrue (is_spare (mark_at marks row))
  pub one : (row : ℕ) → IsTrue (mark_at marks row).queued → (mark_at marks row).parents ≤ 1

-- what holds of every state
pub record IsState (s : State) : Type 0 where
  pub few : length s.marks < 2 ^ 32
  pub found : IsFound s.marks s.found
  pub queue : IsQueue s.marks s.alone

-- the other lists are empty, and all have room for each row
pub record IsRested (rows : ℕ) (found alone lost counted : Held) (leaves : List ℕ) : Type 0 where
  pub found_room : found.room ≡ rows
  pub alone_room : alone.room ≡ rows
  pub no_lost : lost ≡ none_held rows
  pub no_counted : counted ≡ none_held rows
  pub leaves_len : length leaves ≡ rows
  pub no_leaves : (group : ℕ) → slice_index_or leaves group 0 ≡ 0

-- nothing is known of any row
pub record IsClear (s : State) : Type 0 where
  pub marks : (row : ℕ) → mark_at s.marks row ≡ empty_mark
  pub found : s.found ≡ []
  pub alone : s.alone ≡ []
