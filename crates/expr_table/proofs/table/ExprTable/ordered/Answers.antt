use Rattle.std.proofs.Common.{sym, ap, ◌∙◌, subst, inl, inr, ⊎_elim}
use Rattle.expr_table.specs.declared.node.Node.{Node}
use Rattle.expr_table.specs.Table.{IsTable, terms, term_of}
use Rattle.expr_table.specs.Interning.{IsOrderedGate}
use Rattle.expr_table.proofs.Ordered.{in_order, turned, IsOrderedGate-gate, term-in_order, term-turned}
use Rattle.expr_table.proofs.table.ExprTable.ordered.Goals as goal

pub returns-in-Greater : goal.returns-in-Greater
returns-in-Greater c =
    let table = subst IsTable c.self.view_is c.self.invariant.1 in
    let greater = sym c.compare.ensures ∙ c.in-Greater.is in
    record {
      gate = subst (IsOrderedGate c.args.self.now.nodes) (sym c.gate_node.ensures)
          (IsOrderedGate-gate c.args.self.now table c.args.gate c.args.b c.args.a (turned c.args.self.now table c.args.a c.args.b c.requires.a_in c.requires.b_in greater));
      term = ap (λ (n : Node). term_of (terms c.args.self.now.nodes) n) c.gate_node.ensures ∙ term-turned c.args.self.now table c.args.gate c.args.a c.args.b greater;
    }

pub returns-in-Less : goal.returns-in-Less
returns-in-Less c =
    let table = subst IsTable c.self.view_is c.self.invariant.1 in
    let are = in_order c.args.self.now table c.args.a c.args.b c.requires.a_in c.requires.b_in c.requires.differ
    (⊎_elim (λ e. inl (sym c.compare.ensures ∙ e)) (λ e. inr (sym c.compare.ensures ∙ e)) c.in-Less.is) in
    record {
      gate = subst (IsOrderedGate c.args.self.now.nodes) (sym c.gate_node-in-Less.ensures) (IsOrderedGate-gate c.args.self.now table c.args.gate c.args.a c.args.b are);
      term = ap (λ (n : Node). term_of (terms c.args.self.now.nodes) n) c.gate_node-in-Less.ensures ∙ term-in_order c.args.self.now table c.args.gate c.args.a c.args.b are;
    }
