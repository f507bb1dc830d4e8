-- How marks change while the rows that some roots read are marked.
use Rattle.std.specs.Prelude.{ℕ, ◌≡◌, ◌+◌, ◌≤◌, ◌<◌, ◌==◌, Bool, true, false, ◌&&◌, if◌then◌else◌, bit_xor, List, length, take}
use Rattle.expr_table.specs.declared.node.Node.{Node}
use Rattle.expr_table.specs.Table.{node_at, sides, has}
use Rattle.once_random.specs.Cuts.{is_random}
use Rattle.once_random.specs.Numbers.{count_below}
use Rattle.live_rows.specs.declared.mark.Mark.{Mark}
use Rattle.live_rows.specs.Marks.{mark_at, is_lone}
use Rattle.live_rows.specs.Shown.{mixed_below}
use Rattle.live_rows.specs.State.{IsFound}

-- the mark of a root
abbrev pub as_root : Mark → Mark
as_root mark = record mark { root = true; live = true; touched = true }

-- the mark, of a root where the row is one
abbrev pub rooted : Bool → Mark → Mark
rooted is_root mark = if is_root then as_root mark else mark

-- the mark with one parent more, so that the row is live
abbrev pub with_parent : ℕ → Mark → Mark
with_parent parent mark =
    record mark { parents = mark.parents + 1; mixed = bit_xor mark.mixed parent; live = true; touched = true }

-- the mark once a row was looked at that reads this one, or that is this one and a random leaf
abbrev pub looked : ℕ → Bool → Bool → Mark → Mark
looked row reads is_leaf mark =
    if reads then with_parent row mark else (if is_leaf then record mark { fresh = true } else mark)

-- the mark of the other row once the row with this node was looked at
abbrev pub noted : ℕ → Node → ℕ → Mark → Mark
noted row n other mark = looked row (has (sides n) other) (is_random n && (row == other)) mark

-- the row is counted and has the other as a side
abbrev pub reads : List Node → (ℕ → Bool) → ℕ → ℕ → Bool
reads nodes counting row parent = counting parent && has (sides (node_at nodes parent)) row

-- Each row has its parents among the rows that are counted, and is live exactly where it is a root or has one.
pub record IsCounted (nodes : List Node) (counting : ℕ → Bool) (marks : List Mark) : Type 0 where
  pub rows : length marks ≡ length nodes
  pub parents : (row : ℕ) → (mark_at marks row).parents ≡ count_below (length nodes) (reads nodes counting row)
  pub mixed : (row : ℕ) → (mark_at marks row).mixed ≡ mixed_below (length nodes) (reads nodes counting row)
  pub rooted : (row : ℕ) → (mark_at marks row).root ≡ true → (mark_at marks row).live ≡ true
  pub read : (row : ℕ) → 0 < (mark_at marks row).parents → (mark_at marks row).live ≡ true
  pub from : (row : ℕ) → (mark_at marks row).live ≡ true → (mark_at marks row).root ≡ false
      → 0 < (mark_at marks row).parents

-- The first k of the rows found were looked at; the roots are as at the start, and nothing is cut.
pub record IsSpread (nodes : List Node) (start marks : List Mark) (found : List ℕ) (k : ℕ) : Type 0 where
  pub within : k ≤ length found
  pub listed : IsFound marks found
  pub counted : IsCounted nodes (has (take k found)) marks
  pub live : (row : ℕ) → (mark_at marks row).live ≡ (mark_at marks row).touched
  pub fresh : (row : ℕ) → (mark_at marks row).fresh ≡ (has (take k found) row && is_random (node_at nodes row))
  pub root : (row : ℕ) → (mark_at marks row).root ≡ (mark_at start row).root
  pub cut : (row : ℕ) → (mark_at marks row).cut ≡ false
  pub queued : (row : ℕ) → (mark_at marks row).queued ≡ false

-- the mark, queued where the row was offered
abbrev pub offered : Bool → Mark → Mark
offered is_offered mark = if is_offered then record mark { queued = true } else mark

-- the row is one of these and may serve a cut
abbrev pub is_offered : List Mark → List ℕ → ℕ → Bool
is_offered marks found row = has found row && is_lone (mark_at marks row)
