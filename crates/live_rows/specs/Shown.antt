-- What marks say of roots and cuts, which are lists of row numbers, the latest cut first.
use Rattle.std.specs.Prelude.{ℕ, zero, suc, ◌≡◌, ◌==◌, Bool, not, ◌&&◌, if◌then◌else◌, IsTrue, List, length}
use Rattle.std.specs.Int.Bits.{bit_xor}
use Rattle.expr_table.specs.declared.node.Node.{Node}
use Rattle.expr_table.specs.Table.{has}
use Rattle.once_random.specs.Cuts.{is_fresh}
use Rattle.once_random.specs.Live.{is_live, is_live_parent, live_parents}
use Rattle.once_random.specs.Numbers.{count_below}
use Rattle.live_rows.specs.declared.mark.Mark.{Mark}
use Rattle.live_rows.specs.Marks.{mark_at}

-- the exclusive or of the numbers below n that pass
abbrev pub mixed_below : ℕ → (ℕ → Bool) → ℕ
mixed_below zero test = 0
mixed_below (suc n) test = bit_xor (mixed_below n test) (if test n then n else 0)

-- the exclusive or of the numbers of the row's live parents
abbrev pub mixed_parents : List Node → List ℕ → List ℕ → ℕ → ℕ
mixed_parents nodes roots cuts row = mixed_below (length nodes) (is_live_parent nodes roots cuts row)

-- how many rows are live
abbrev pub live_count : List Node → List ℕ → List ℕ → ℕ
live_count nodes roots cuts = count_below (length nodes) (is_live nodes roots cuts)

-- The marks are right for these roots and cuts. That a row is fresh is known of the live rows.
pub record Shows (nodes : List Node) (roots cuts : List ℕ) (marks : List Mark) : Type 0 where
  pub rows : length marks ≡ length nodes
  pub root : (row : ℕ) → (mark_at marks row).root ≡ has roots row
  pub cut : (row : ℕ) → (mark_at marks row).cut ≡ has cuts row
  pub live : (row : ℕ) → (mark_at marks row).live ≡ is_live nodes roots cuts row
  pub parents : (row : ℕ) → (mark_at marks row).parents ≡ live_parents nodes roots cuts row
  pub mixed : (row : ℕ) → (mark_at marks row).mixed ≡ mixed_parents nodes roots cuts row
  pub fresh : (row : ℕ) → IsTrue (is_live nodes roots cuts row)
      → (mark_at marks row).fresh ≡ is_fresh nodes cuts row

-- the marks are right for some roots and cuts
pub record IsShown (nodes : List Node) (marks : List Mark) : Type 0 where
  pub roots : List ℕ
  pub cuts : List ℕ
  pub shown : Shows nodes roots cuts marks

-- the row is fresh, is no root and is read by one live row alone, so it may serve a cut of that row
abbrev pub serves : List Node → List ℕ → List ℕ → ℕ → Bool
serves nodes roots cuts row =
    is_fresh nodes cuts row && (not (has roots row) && (live_parents nodes roots cuts row == 1))
