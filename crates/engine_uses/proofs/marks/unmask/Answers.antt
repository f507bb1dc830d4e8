use Rattle.std.proofs.Common.{◌≡◌, ◌<◌, ℕ, length, rules, subst, sym, arith}
use Rattle.expr_table.specs.declared.node.Node.TheVariants.{Input}
use Rattle.expr_table.specs.Table.{Table, IsTable, node_at}
use Rattle.engine_uses.proofs.marks.unmask.Goals as goal

one_input : (t : Table) → IsTable t → t.inputs ≡ 1 → (groups : ℕ) → groups ≡ 1 → (row i : ℕ) → node_at t.nodes row ≡ Input i → i < groups
one_input t is inputs groups one row i h = let low : i < t.inputs = (is.input_once row i h).0 in omega arith

pub are_within-requires-clause-one_group_each : goal.are_within-requires-clause-one_group_each
are_within-requires-clause-one_group_each g c = one_input c.in_ok-table.table c.in_ok-table.ensures.table c.in_ok-table.ensures.inputs (length c.as_slice-2.result.now) (search rules)

pub are_within-requires-2-clause-one_group_each : goal.are_within-requires-2-clause-one_group_each
are_within-requires-2-clause-one_group_each g c = one_input c.in_ok-table.table c.in_ok-table.ensures.table c.in_ok-table.ensures.inputs (length c.as_slice-3.result.now) (search rules)

pub are_within-requires-3-clause-one_group_each : goal.are_within-requires-3-clause-one_group_each
are_within-requires-3-clause-one_group_each g c = one_input c.in_ok-table.table c.in_ok-table.ensures.table c.in_ok-table.ensures.inputs (length c.as_slice-4.result.now) (search rules)
