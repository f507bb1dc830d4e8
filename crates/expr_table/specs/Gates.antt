-- The two gates over rows: their nodes, their simplified terms, and what is known before a row is sought.
use Rattle.std.specs.Prelude.{◌≡◌, ◌≢◌, List, Option, Some, None}
use Rattle.expr_table.specs.declared.node.Node.{Node}
use Rattle.expr_table.specs.declared.node.Node.TheVariants as node
use Rattle.expr_table.specs.declared.node.Row.{Row}
use Rattle.expr_table.specs.declared.table.gate.Gate.{Gate}
use Rattle.expr_table.specs.declared.table.gate.Gate.TheVariants.{And, Xor}
use Rattle.expr_table.specs.Table.{terms, term_at, xor_at, and_at, IsRowOf}
use Rattle.expr_table.specs.Term.{Term, ordered_xor, ordered_and}

-- the node of a gate over two rows
abbrev pub gate_node : Gate → Row → Row → Node
gate_node And a b = node.And a b
gate_node Xor a b = node.Xor a b

-- the simplified gate of the terms of two rows
abbrev pub gate_at : Gate → List Node → Row → Row → Term
gate_at And nodes a b = and_at nodes a b
gate_at Xor nodes a b = xor_at nodes a b

-- the gate of two terms, the lesser one first
abbrev pub ordered_gate : Gate → Term → Term → Term
ordered_gate And a b = ordered_and a b
ordered_gate Xor a b = ordered_xor a b

-- the row has the simplified term; or the rows differ, and that term is the gate with the lesser first
abbrev pub Simplifies : Gate → List Node → Row → Row → Option Row → Type 0
Simplifies gate nodes a b (Some row) = IsRowOf nodes row.0 (gate_at gate nodes a b)
Simplifies gate nodes a b None =
    (a ≢ b) × (gate_at gate nodes a b ≡ ordered_gate gate (term_at (terms nodes) a.0) (term_at (terms nodes) b.0))
