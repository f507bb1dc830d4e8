use Rattle.std.proofs.Common.{sym, ◌∙◌, subst}
use Rattle.expr_table.specs.Table.{IsTable}
use Rattle.expr_table.specs.Gates.{gate_at}
use Rattle.expr_table.specs.Interning.{Interns}
use Rattle.expr_table.proofs.Interned.{Interns-there}
use Rattle.expr_table.proofs.table.ExprTable.join.Goals as goal

pub returns-in-Some : goal.returns-in-Some
returns-in-Some c =
    Interns-there c.args.self.now (subst IsTable c.self.view_is c.self.invariant.1) (gate_at c.args.gate c.args.self.now.nodes c.args.a c.args.b) c.in-Some.row c.in-Some.ensures

pub returns : goal.returns
returns c = subst (λ s. Interns s c.args.self.now c.intern.new.self c.intern.result) (c.ordered-node.ensures.term ∙ sym c.in_default.ensures.1) c.intern.ensures
