use Rattle.std.proofs.Common.{◌||◌, ◌==◌, sym, ap, ◌∙◌}
use Rattle.expr_table.specs.Table.{has}
use Rattle.least_chain.proofs.Least.{numbers_moved}
use Rattle.least_chain.proofs.least_first.LeastFirst.push.Goals as goal

pub returns-clause-has : goal.returns-clause-has
returns-clause-has c other = sym (numbers_moved _ _ c.in_ok-push.ensures.permutation other) ∙ ap (λ l. c.args.number == other || has l other) c.self.view_is
