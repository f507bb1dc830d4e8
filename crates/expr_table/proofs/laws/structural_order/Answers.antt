use Rattle.std.proofs.Common.{sym, ap, ◌∙◌}
use Rattle.expr_table.specs.Term.{term_cmp}
use Rattle.expr_table.proofs.Order.{term_cmp_total, cmp_exact, cmp_self}
use Rattle.expr_table.proofs.laws.structural_order.Goals as goal

pub returns-clause-total : goal.returns-clause-total
returns-clause-total c = term_cmp_total

pub returns-clause-equal : goal.returns-clause-equal
returns-clause-equal c s t = (cmp_exact s t, λ e. ap (term_cmp s) (sym e) ∙ cmp_self s)
