-- Cuts: a row that adds a random used nowhere else is as good as that random, and is read no further (optimistic
-- sampling; Barthe et al., EUROCRYPT 2015). Lists of cuts have the latest cut first.
use Rattle.std.specs.Prelude.{ℕ, ◌==◌, zero, suc, Bool, true, false, not, ◌&&◌, ◌||◌, IsTrue, IsFalse}
use Rattle.std.specs.Prelude.{◌<◌, List, [], ◌∷◌, length, reverse, All, Option}
use Rattle.std.specs.Option.{option_map_or}
use Rattle.expr_table.specs.declared.node.Node.{Node}
use Rattle.expr_table.specs.declared.node.Node.TheVariants as node
use Rattle.expr_table.specs.declared.node.Row.{Row}
use Rattle.expr_table.specs.Table.{Table, node_at, has, numbers}
use Rattle.once_random.specs.Numbers.{all_below, least_below}
use Rattle.once_random.specs.Live.{is_live, is_live_parent}

-- rows that are cut one after another, as a list of cuts: the latest stands first
abbrev pub cuts_of : List Row → List ℕ
cuts_of rows = reverse (numbers rows)

-- these are rows of the table
abbrev pub AreWithin : Table → List Row → Type 0
AreWithin t rows = All (λ (row : Row). row.0 < length t.nodes) rows

-- a random leaf
abbrev pub is_random : Node → Bool
is_random (node.Random i) = true
is_random n = false

-- an exclusive or
abbrev pub is_xor : Node → Bool
is_xor (node.Xor a b) = true
is_xor n = false

-- the row is a random leaf, or was cut and so is as good as one
abbrev pub is_fresh : List Node → List ℕ → ℕ → Bool
is_fresh nodes cuts row = is_random (node_at nodes row) || has cuts row

-- no row but e is a live parent of the row
abbrev pub has_no_parent_but : List Node → List ℕ → List ℕ → ℕ → ℕ → Bool
has_no_parent_but nodes roots cuts e row =
    all_below (length nodes) (λ p. p == e || not (is_live_parent nodes roots cuts row p))

-- the side masks e: it is fresh, is no root, and has no live parent other than e
abbrev pub masks : List Node → List ℕ → List ℕ → ℕ → ℕ → Bool
masks nodes roots cuts e side =
    is_fresh nodes cuts side && (not (has roots side) && has_no_parent_but nodes roots cuts e side)

-- e has this node, which is an Xor, and one of its sides masks e
abbrev pub is_masked : List Node → List ℕ → List ℕ → ℕ → Node → Bool
is_masked nodes roots cuts e (node.Xor a b) = masks nodes roots cuts e a.0 || masks nodes roots cuts e b.0
is_masked nodes roots cuts e n = false

-- a cut of e is allowed after these cuts
abbrev pub is_allowed : List Node → List ℕ → List ℕ → ℕ → Bool
is_allowed nodes roots cuts e = not (has cuts e) && is_masked nodes roots cuts e (node_at nodes e)

-- each cut is allowed after those made before it
abbrev pub IsChain : List Node → List ℕ → List ℕ → Type 0
IsChain nodes roots [] = Unit {0}
IsChain nodes roots (e ∷ cuts) = IsTrue (is_allowed nodes roots cuts e) × IsChain nodes roots cuts

-- the row is live and may be cut
abbrev pub may_be_cut : List Node → List ℕ → List ℕ → ℕ → Bool
may_be_cut nodes roots cuts e = is_live nodes roots cuts e && is_allowed nodes roots cuts e

-- no live row may be cut after these cuts
abbrev pub IsSaturated : List Node → List ℕ → List ℕ → Type 0
IsSaturated nodes roots cuts = (e : ℕ) → IsFalse (may_be_cut nodes roots cuts e)

-- the live row of least number that may be cut
unfoldable pub next_cut : List Node → List ℕ → List ℕ → Option ℕ
next_cut nodes roots cuts = least_below (length nodes) (may_be_cut nodes roots cuts)

-- at most n further cuts, each of the live row of least number that may be cut
abbrev pub least_after : List Node → List ℕ → ℕ → List ℕ → List ℕ
least_after nodes roots zero cuts = cuts
least_after nodes roots (suc n) cuts =
    option_map_or (λ e. least_after nodes roots n (e ∷ cuts)) (next_cut nodes roots cuts) cuts

-- The least chain: as long as one is allowed, it cuts the live row of least number that may be cut. No row is
-- cut twice, so there are no more cuts than rows.
unfoldable pub least_chain : List Node → List ℕ → List ℕ
least_chain nodes roots = least_after nodes roots (length nodes) []
