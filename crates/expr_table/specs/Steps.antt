-- What one step of a comparison says.
use Rattle.std.specs.Prelude.{ℕ, ◌<◌, ◌≡◌, ◌==◌, if◌then◌else◌, List}
use Rattle.std.specs.Ordering.{nat_cmp}
use Rattle.expr_table.specs.declared.node.Node.{Node}
use Rattle.expr_table.specs.declared.node.Node.TheVariants.{Zero, One, Input, Random, And, Xor}
use Rattle.expr_table.specs.declared.node.Row.{Row}
use Rattle.expr_table.specs.declared.table.compare.Step.{Step}
use Rattle.expr_table.specs.declared.table.compare.Step.TheVariants.{Known, Deeper}
use Rattle.expr_table.specs.Term.{term_cmp}
use Rattle.expr_table.specs.Table.{terms, term_at}

-- the order is known, or it is that of two earlier rows
abbrev pub Compares : List Node → ℕ → ℕ → Step → Type 0
Compares nodes a b (Known order) = order ≡ term_cmp (term_at (terms nodes) a) (term_at (terms nodes) b)
Compares nodes a b (Deeper p q) =
    (p.0 < a) × (q.0 < b)
    × (term_cmp (term_at (terms nodes) p.0) (term_at (terms nodes) q.0)
    ≡ term_cmp (term_at (terms nodes) a) (term_at (terms nodes) b))

-- how a node's kind ranks in the structural order
abbrev pub node_kind : Node → ℕ
node_kind Zero = 0
node_kind One = 1
node_kind (Input i) = 2
node_kind (Random i) = 3
node_kind (And a b) = 4
node_kind (Xor a b) = 5

-- the sides at which two gates of one kind differ first
abbrev pub differing_sides : Row → Row → Row → Row → Step
differing_sides p q r s = if p.0 == r.0 then Deeper q s else Deeper p r

-- a step from two nodes
abbrev pub next_step : Node → Node → Step
next_step (Input i) (Input j) = Known (nat_cmp i j)
next_step (Random i) (Random j) = Known (nat_cmp i j)
next_step (And p q) (And r s) = differing_sides p q r s
next_step (Xor p q) (Xor r s) = differing_sides p q r s
next_step m n = Known (nat_cmp (node_kind m) (node_kind n))
