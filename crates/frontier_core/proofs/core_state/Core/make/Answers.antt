use Rattle.std.proofs.Common.{◌∙◌, sym, subst}
use Rattle.probe_family.specs.Roots.{roots_of}
use Rattle.frontier_core.specs.Balance.{Balanced}
use Rattle.frontier_core.proofs.Cores.{core_is, roots_balance}
use Rattle.frontier_core.proofs.core_state.Core.make.Goals as goal

pub returns-clause-balanced : goal.returns-clause-balanced
returns-clause-balanced c =
    core_is c.args.instance.now c.args.order c.in_ok-roots.roots.items c.in_ok-open_families.open_families.items (roots_of c.args.instance.now c.args.order) c.in_ok-held.held.items c.new.result.items c.args.workers
    c.in_ok-roots.ensures.roots (c.in_ok-open_families.ensures ∙ (c.deref.ensures.value ∙ c.in_ok-roots.ensures.roots)) c.in_ok-held.ensures
    (subst (λ ended. Balanced c.args.instance.now c.args.order (roots_of c.args.instance.now c.args.order) ended) (sym c.new.ensures.items) (roots_balance c.args.instance.now c.args.order c.requires.few))
