use Rattle.std.proofs.Common.{◌≡◌, ◌+◌, sym, ap, subst}
use Rattle.expr_table.specs.declared.node.Node.TheVariants as node
use Rattle.expr_table.specs.Table.{Table, IsTable, IsRowOf}
use Rattle.expr_table.specs.Term as term
use Rattle.expr_table.proofs.Rows.{IsRowOf-node}
use Rattle.expr_table.proofs.table.ExprTable.random.Goals as goal

pub returns-clause-row : goal.returns-clause-row
returns-clause-row c =
    let table : IsTable c.args.self.now = subst IsTable c.self.view_is c.self.invariant.1 in
    let inputs : c.args.self.now.inputs ≡ c.self.inside.inputs = sym (ap (λ (t : Table). t.inputs) c.self.view_is) in
    subst (λ n. IsRowOf c.args.self.now.nodes (2 + n + c.args.i) (term.Random c.args.i)) inputs
    (IsRowOf-node c.args.self.now table (2 + c.args.self.now.inputs + c.args.i) (node.Random c.args.i) (table.random_rows c.args.i c.requires))
