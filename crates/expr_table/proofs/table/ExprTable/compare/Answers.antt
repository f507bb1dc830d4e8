use Rattle.std.proofs.Common.{◌≡◌, sym, ap, ◌∙◌}
use Rattle.std.proofs.lemmas.Bool.{not-false, eqb-true}
use Rattle.expr_table.specs.Term.{term_cmp}
use Rattle.expr_table.specs.Table.{terms, term_at}
use Rattle.expr_table.proofs.Order.{cmp_self}
use Rattle.expr_table.proofs.table.ExprTable.compare.Goals as goal

pub returns : goal.returns
returns c =
    let same : c.loop-a.a.0 ≡ c.loop-a.b.0 = eqb-true _ _ (not-false _ (sym c.loop-a-test.ensures)) in
    sym (cmp_self (term_at (terms c.args.self.now.nodes) c.loop-a.a.0))
    ∙ ap (λ r. term_cmp (term_at (terms c.args.self.now.nodes) c.loop-a.a.0) (term_at (terms c.args.self.now.nodes) r)) same ∙ c.loop-a.invariant.same_order
