use Rattle.std.proofs.Common.{sym, subst, []}
use Rattle.frontier_core.specs.Balance.{Balanced}
use Rattle.frontier_core.proofs.Cores.{roots_balance}
use Rattle.engine_uses.proofs.searches.resumed.Goals as goal

pub resume-requires-clause-balanced : goal.resume-requires-clause-balanced
resume-requires-clause-balanced c =
    subst (λ ended. Balanced c.args.instance.now c.args.order c.in_ok-waiting.waiting.items ended) (sym c.new.ensures.items)
    (subst (λ waiting. Balanced c.args.instance.now c.args.order waiting []) (sym c.in_ok-waiting.ensures.roots) (roots_balance c.args.instance.now c.args.order c.requires.few))
