use Rattle.std.proofs.Common.{subst}
use Rattle.expr_table.specs.declared.node.Node.TheVariants as node
use Rattle.expr_table.specs.Table.{IsTable}
use Rattle.expr_table.proofs.Rows.{IsRowOf-node}
use Rattle.expr_table.proofs.table.ExprTable.one.Goals as goal

pub returns-clause-row : goal.returns-clause-row
returns-clause-row c =
    let table : IsTable c.args.self.now = subst IsTable c.self.view_is c.self.invariant.1 in
    IsRowOf-node c.args.self.now table 1 node.One table.one_row
