use Rattle.std.proofs.Common.{◌≤◌, sym, subst}
use Rattle.probe_family.specs.Families.{IsFamily}
use Rattle.frontier_core.specs.Search.{IsSearched}
use Rattle.frontier_core.proofs.Allowed.{for_held}
use Rattle.frontier_core.proofs.Cores.{held_is_searched}
use Rattle.frontier_core.proofs.Moving.{moves_beyond}
use Rattle.frontier_core.proofs.core_state.Core.end_turn.Goals as goal

pub known_before-requires : goal.known_before-requires
known_before-requires c =
    for_held c.args.instance.now c.args.counts.now.t c.args.self.now (λ family. IsFamily c.args.counts.now.n family × (family.size ≤ c.args.counts.now.t)) c.args.worker
    (λ family has. let is = held_is_searched c.args.instance.now c.args.counts.now.t c.args.self.now c.args.worker family c.requires.balanced has in
    (subst (λ n. IsFamily n family) (sym c.requires.counted) is.rules, is.small))

pub returns-in_ok-step-in-Some-clause-moves : goal.returns-in_ok-step-in-Some-clause-moves
returns-in_ok-step-in-Some-clause-moves c number =
    moves_beyond c.args.instance.now c.args.counts.now.t c.args.self.now c.args.worker number c.in-Some.best c.step.new.self c.requires.held
    (c.in-Some.ensures c.args.instance.now c.requires.counted) c.in_ok-step-in-Some.ensures.core

pub prove_or_fail-requires-clause-family : goal.prove_or_fail-requires-clause-family
prove_or_fail-requires-clause-family c =
    for_held c.args.instance.now c.args.counts.now.t c.args.self.now (IsSearched c.args.instance.now c.args.counts.now.t) c.args.worker
    (λ family has. held_is_searched c.args.instance.now c.args.counts.now.t c.args.self.now c.args.worker family c.requires.balanced has)
