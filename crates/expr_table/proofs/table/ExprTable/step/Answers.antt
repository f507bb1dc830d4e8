use Rattle.std.proofs.Common.{◌≡◌, sym, ◌∙◌, subst}
use Rattle.std.proofs.lemmas.Option.{get_or_from_slice_get}
use Rattle.expr_table.specs.declared.node.Node.TheVariants as node
use Rattle.expr_table.specs.Table.{IsTable, node_at}
use Rattle.expr_table.specs.Steps.{Compares, next_step}
use Rattle.expr_table.proofs.Steps.{compares}
use Rattle.expr_table.proofs.table.ExprTable.step.Goals as goal

pub returns : goal.returns
returns c =
    let table : IsTable c.args.self.now = subst IsTable c.self.view_is c.self.invariant.1 in
    let m : node_at c.args.self.now.nodes c.args.a.0 ≡ c.node.result = get_or_from_slice_get c.args.self.now.nodes c.args.a.0 c.node.result node.Zero c.node.ensures in
    let n : node_at c.args.self.now.nodes c.args.b.0 ≡ c.node-2.result = get_or_from_slice_get c.args.self.now.nodes c.args.b.0 c.node-2.result node.Zero c.node-2.ensures in
    subst (Compares c.args.self.now.nodes c.args.a.0 c.args.b.0) ((λ i. next_step (m i) (n i)) ∙ sym c.step_of.ensures)
    (compares c.args.self.now table c.args.a.0 c.args.b.0 c.requires.a_in c.requires.b_in)
