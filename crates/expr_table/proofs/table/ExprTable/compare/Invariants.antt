use Rattle.std.proofs.Common.{◌≡◌, ◌<◌, length}
use Rattle.expr_table.specs.Term.{term_cmp}
use Rattle.expr_table.specs.Table.{terms, term_at}
use Rattle.expr_table.proofs.table.ExprTable.compare.Given as goal

abbrev pub invariant-loop-a : goal.invariant-loop-a
invariant-loop-a l = record {
  a_in : l.a.0 < length l.self.nodes;
  b_in : l.b.0 < length l.self.nodes;
  same_order : term_cmp (term_at (terms l.self.nodes) l.a.0) (term_at (terms l.self.nodes) l.b.0)
      ≡ term_cmp (term_at (terms l.self.nodes) l.fn.a.0) (term_at (terms l.self.nodes) l.fn.b.0);
}

abbrev pub decreases-loop-a : goal.decreases-loop-a
decreases-loop-a l = l.a.0
