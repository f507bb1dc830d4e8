use Rattle.std.proofs.Common.{refl}
use Rattle.frontier_core.proofs.Cores.{core_is}
use Rattle.frontier_core.proofs.core_state.Core.resume.Goals as goal

pub returns-clause-balanced : goal.returns-clause-balanced
returns-clause-balanced c =
    core_is c.args.instance.now c.args.order c.in_ok-roots.roots.items c.args.waiting.items c.args.waiting.items c.in_ok-held.held.items c.args.ended.items c.args.workers
    c.in_ok-roots.ensures.roots refl c.in_ok-held.ensures c.requires.balanced
