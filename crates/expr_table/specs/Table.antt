-- A table of terms: its leaves, its nodes row by row, and what holds of every table.
use Rattle.std.specs.Prelude.{ℕ, ◌+◌, ◌<◌, ◌≤◌, ◌≡◌, ◌==◌, ◌++◌, ◌||◌, zero, suc, Bool, false, if◌then◌else◌, IsTrue, List, [], ◌∷◌, length, map, slice_get, slice_index_or, Some}
use Rattle.std.specs.declared.cmp.Ordering.TheVariants.{Less}
use Rattle.expr_table.specs.declared.node.Node.{Node}
use Rattle.expr_table.specs.declared.node.Row.{Row}
use Rattle.expr_table.specs.declared.node.Node.TheVariants as node
use Rattle.expr_table.specs.Term.{Term, Zero, One, Input, Random, And, Xor, is_same, term_cmp, xor_of, and_of}

-- the most rows that a table has
abbrev pub most_rows : ℕ
most_rows = 524288

-- what contracts see of a table: how many input leaves and random leaves it has, and its nodes, row by row
pub record Table : Type 0 where
  pub inputs : ℕ
  pub randoms : ℕ
  pub nodes : List Node

-- rows as numbers
abbrev pub numbers : List Row → List ℕ
numbers rows = map (λ (row : Row). row.0) rows

-- the node of a row
abbrev pub node_at : List Node → ℕ → Node
node_at nodes row = slice_index_or nodes row node.Zero

-- the rows of a node's sides
abbrev pub sides : Node → List ℕ
sides (node.And a b) = a.0 ∷ b.0 ∷ []
sides (node.Xor a b) = a.0 ∷ b.0 ∷ []
sides n = []

-- the row stands in the list
abbrev pub has : List ℕ → ℕ → Bool
has [] row = false
has (r ∷ rs) row = r == row || has rs row

-- the term of a row
abbrev pub term_at : List Term → ℕ → Term
term_at done row = slice_index_or done row Zero

-- the term of a node over the terms of the rows before it
abbrev pub term_of : List Term → Node → Term
term_of done node.Zero = Zero
term_of done node.One = One
term_of done (node.Input i) = Input i
term_of done (node.Random i) = Random i
term_of done (node.And a b) = And (term_at done a.0) (term_at done b.0)
term_of done (node.Xor a b) = Xor (term_at done a.0) (term_at done b.0)

-- the terms of nodes that follow those done
abbrev pub terms_after : List Term → List Node → List Term
terms_after done [] = done
terms_after done (n ∷ ns) = terms_after (done ++ term_of done n ∷ []) ns

-- the term of each row, from the first row on
abbrev pub terms : List Node → List Term
terms nodes = terms_after [] nodes

-- some term of the list is the same as this one
abbrev pub has_term : List Term → Term → Bool
has_term [] t = false
has_term (s ∷ ss) t = is_same s t || has_term ss t

-- the list, with the term at its end where it was not there
abbrev pub with_term : List Term → Term → List Term
with_term ts t = if has_term ts t then ts else ts ++ t ∷ []

-- the row has the term
pub record IsRowOf (nodes : List Node) (row : ℕ) (t : Term) : Type 0 where
  pub within : row < length nodes
  pub term : term_at (terms nodes) row ≡ t

-- the term of the first row is less than that of the second
abbrev pub IsBelow : List Node → Row → Row → Type 0
IsBelow nodes a b = term_cmp (term_at (terms nodes) a.0) (term_at (terms nodes) b.0) ≡ Less

-- the simplified exclusive or of the terms of two rows
abbrev pub xor_at : List Node → Row → Row → Term
xor_at nodes a b = xor_of (term_at (terms nodes) a.0) (term_at (terms nodes) b.0)

-- the simplified conjunction of the terms of two rows
abbrev pub and_at : List Node → Row → Row → Term
and_at nodes a b = and_of (term_at (terms nodes) a.0) (term_at (terms nodes) b.0)

-- no row has the term
abbrev pub IsNew : Table → Term → Type 0
IsNew t s = has_term (terms t.nodes) s ≡ false

-- there is room for no more rows
abbrev pub IsFull : Table → Type 0
IsFull t = length t.nodes ≡ most_rows

-- leaves of one kind, numbered from a first number on
abbrev pub numbered_leaves : (ℕ → Node) → ℕ → ℕ → List Node
numbered_leaves leaf first zero = []
numbered_leaves leaf first (suc n) = leaf first ∷ numbered_leaves leaf (first + 1) n

-- the rows of a new table: Zero, One, the input leaves, the random leaves
abbrev pub leaves : ℕ → ℕ → List Node
leaves inputs randoms =
    node.Zero ∷ node.One ∷ numbered_leaves node.Input 0 inputs ++ numbered_leaves node.Random 0 randoms

-- a table of the leaves alone
abbrev pub new_table : ℕ → ℕ → Table
new_table inputs randoms = record { inputs = inputs; randoms = randoms; nodes = leaves inputs randoms }

-- the rows stay, and others may come after them
pub record Extends (old new : Table) : Type 0 where
  pub same_inputs : new.inputs ≡ old.inputs
  pub same_randoms : new.randoms ≡ old.randoms
  pub more : List Node
  pub nodes : new.nodes ≡ old.nodes ++ more

-- what holds of every table
pub record IsTable (t : Table) : Type 0 where
  -- Zero, One, the input leaves and the random leaves stand first, and no leaf stands again
  pub zero_row : slice_get t.nodes 0 ≡ Some node.Zero
  pub one_row : slice_get t.nodes 1 ≡ Some node.One
  pub input_rows : (i : ℕ) → i < t.inputs → slice_get t.nodes (2 + i) ≡ Some (node.Input i)
  pub random_rows : (i : ℕ) → i < t.randoms → slice_get t.nodes (2 + t.inputs + i) ≡ Some (node.Random i)
  pub input_once : (row i : ℕ) → node_at t.nodes row ≡ node.Input i → (i < t.inputs) × (row ≡ 2 + i)
  pub random_once : (row i : ℕ) → node_at t.nodes row ≡ node.Random i → (i < t.randoms) × (row ≡ 2 + t.inputs + i)
  -- sides are earlier rows, the lesser term first
  pub earlier : (row side : ℕ) → IsTrue (has (sides (node_at t.nodes row)) side) → side < row
  pub and_ordered : (row : ℕ) (a b : Row) → node_at t.nodes row ≡ node.And a b → IsBelow t.nodes a b
  pub xor_ordered : (row : ℕ) (a b : Row) → node_at t.nodes row ≡ node.Xor a b → IsBelow t.nodes a b
  -- no term has two rows
  pub distinct : (row other : ℕ) → row < length t.nodes → other < length t.nodes
      → term_at (terms t.nodes) row ≡ term_at (terms t.nodes) other → row ≡ other
  pub few : length t.nodes ≤ most_rows

-- the row of a term in a list of terms: where it first stands
abbrev pub row_with : List Term → Term → ℕ
row_with [] t = 0
row_with (s ∷ ss) t = if is_same s t then 0 else row_with ss t + 1

-- the node that has a term, with its sides where they stand in the list
abbrev pub node_of : List Term → Term → Node
node_of ts Zero = node.Zero
node_of ts One = node.One
node_of ts (Input i) = node.Input i
node_of ts (Random i) = node.Random i
node_of ts (And a b) = node.And (record { 0 = row_with ts a }) (record { 0 = row_with ts b })
node_of ts (Xor a b) = node.Xor (record { 0 = row_with ts a }) (record { 0 = row_with ts b })

-- the nodes of a list of terms, each once
abbrev pub nodes_of : List Term → List Node
nodes_of ts = map (node_of ts) ts
