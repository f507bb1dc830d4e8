use Rattle.std.proofs.Common.{not, ap, ◌∙◌}
use Rattle.circuit_types.specs.Order.{has}
use Rattle.level_unroll.specs.Queue.{is_in}
use Rattle.level_unroll.proofs.Leasts.{same_least}
use Rattle.level_unroll.proofs.causes.unlisted_line.Goals as goal

pub returns : goal.returns
returns c =
    same_least c.args.nets.now (λ k. not (is_in c.deref.result.now k)) (λ k. not (has c.args.order.now k))
    (λ k lt. ap not (ap (λ flags. is_in flags k) c.deref.ensures.value ∙ c.in_ok-listed.ensures.marks k))
    c.unmarked_line.result c.unmarked_line.ensures
