-- Live rows: those that the roots still read, once some rows are cut.
-- Roots and cuts are lists of row numbers.
use Rattle.std.specs.Prelude.{ℕ, zero, suc, ◌<◌, ◌≡◌, Bool, not, ◌&&◌, if◌then◌else◌, IsTrue, List, ◌++◌, length}
use Rattle.expr_table.specs.declared.node.Node.{Node}
use Rattle.expr_table.specs.Table.{node_at, sides, has}
use Rattle.once_random.specs.Numbers.{count_below}

-- What is reached from the rows wanted, over the rows below n, from the last to the first; a row that is cut leads no
-- further.
abbrev pub reached : List Node → List ℕ → ℕ → List ℕ → List ℕ
reached nodes cuts zero wanted = wanted
reached nodes cuts (suc row) wanted =
    reached nodes cuts row
    (if has wanted row && not (has cuts row) then sides (node_at nodes row) ++ wanted else wanted)

-- The row is live: it is one of the least set that holds the roots and both sides of each And or Xor that
-- it holds and that is not cut. The law `live_is_least` says that it is that set.
unfoldable pub is_live : List Node → List ℕ → List ℕ → ℕ → Bool
is_live nodes roots cuts row = has (reached nodes cuts (length nodes) roots) row

-- sides have lesser rows
abbrev pub AreLower : List Node → Type 0
AreLower nodes = (row side : ℕ) → IsTrue (has (sides (node_at nodes row)) side) → side < row

-- the list's numbers are rows
abbrev pub AreRows : List Node → List ℕ → Type 0
AreRows nodes rows = (row : ℕ) → IsTrue (has rows row) → row < length nodes

-- each of these rows is among the others
abbrev pub AreAmong : List ℕ → List ℕ → Type 0
AreAmong rows others = (row : ℕ) → IsTrue (has rows row) → IsTrue (has others row)

-- the lists hold the same rows, in whatever order
abbrev pub AreSameRows : List ℕ → List ℕ → Type 0
AreSameRows rows others = (row : ℕ) → has rows row ≡ has others row

-- The set holds the roots and both sides of each And or Xor that it holds and that is not cut. Other nodes have no
-- sides.
pub record IsClosed (nodes : List Node) (roots cuts : List ℕ) (holds : ℕ → Bool) : Type 0 where
  pub each_root : (row : ℕ) → IsTrue (has roots row) → IsTrue (holds row)
  pub each_side : (row side : ℕ) → IsTrue (holds row) → IsTrue (not (has cuts row))
      → IsTrue (has (sides (node_at nodes row)) side) → IsTrue (holds side)

-- the live rows are such a set, and each such set holds each live row
pub record IsLeastClosed (nodes : List Node) (roots cuts : List ℕ) (holds : ℕ → Bool) : Type 0 where
  pub closed : IsClosed nodes roots cuts holds
  pub least : (other : ℕ → Bool) → IsClosed nodes roots cuts other → (row : ℕ) → IsTrue (holds row) → IsTrue (other row)

-- the other row is live, is not cut and has the row as a side
abbrev pub is_live_parent : List Node → List ℕ → List ℕ → ℕ → ℕ → Bool
is_live_parent nodes roots cuts row parent =
    (is_live nodes roots cuts parent && not (has cuts parent)) && has (sides (node_at nodes parent)) row

-- how many live parents the row has
abbrev pub live_parents : List Node → List ℕ → List ℕ → ℕ → ℕ
live_parents nodes roots cuts row = count_below (length nodes) (is_live_parent nodes roots cuts row)
