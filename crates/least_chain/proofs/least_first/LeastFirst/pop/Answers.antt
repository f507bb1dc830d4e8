use Rattle.std.proofs.Common.{sym, ap, ◌∙◌}
use Rattle.std.specs.BinaryHeap.{heap_items}
use Rattle.expr_table.specs.Table.{has}
use Rattle.least_chain.proofs.Least.{numbers_moved, least_of}
use Rattle.least_chain.proofs.least_first.LeastFirst.pop.Goals as goal

pub returns-clause-has : goal.returns-clause-has
returns-clause-has c other = ap (λ l. has l other) (sym c.self.view_is) ∙ numbers_moved _ _ c.in-Some.ensures.permutation other

pub returns-clause-least : goal.returns-clause-least
returns-clause-least c other h = least_of c.in-Some.least (heap_items c.self.inside.numbers) (c.in-Some.ensures.heap_order c.self.invariant).1 other (ap (λ l. has l other) c.self.view_is ∙ h)
