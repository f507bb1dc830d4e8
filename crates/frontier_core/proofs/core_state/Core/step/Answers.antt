use Rattle.std.proofs.Common.{◌≡◌, ◌≤◌, sym, subst, length}
use Rattle.probe_family.specs.Families.{IsFamily}
use Rattle.frontier_core.specs.declared.event.Event.TheVariants.{Take, Proved, Failed, Beyond}
use Rattle.std.specs.Result.{IfOk, OnOk}
use Rattle.frontier_core.specs.Core.{IsCoreOf, answer_to, core_after}
use Rattle.frontier_core.specs.Search.{IsSearched}
use Rattle.frontier_core.proofs.Allowed.{for_held, kept_either}
use Rattle.frontier_core.proofs.Cores.{event_keeps, held_is_family, held_is_searched}
use Rattle.frontier_core.proofs.core_state.Core.step.Goals as goal

pub prove-requires-clause-family : goal.prove-requires-clause-family
prove-requires-clause-family c =
    for_held c.args.instance.now c.args.counts.now.t c.args.self.now (IsFamily (length c.args.instance.now.probes)) c.in-Proved.worker
    (λ family has. held_is_family c.args.instance.now c.args.counts.now.t c.args.self.now c.in-Proved.worker family c.requires.balanced has)

pub fail-requires-clause-family : goal.fail-requires-clause-family
fail-requires-clause-family c =
    for_held c.args.instance.now c.args.counts.now.t c.args.self.now (IsSearched c.args.instance.now c.args.counts.now.t) c.in-Failed.worker
    (λ family has. held_is_searched c.args.instance.now c.args.counts.now.t c.args.self.now c.in-Failed.worker family c.requires.balanced has)

pub pass_over-requires : goal.pass_over-requires
pass_over-requires c = record {
  family = for_held c.args.instance.now c.args.counts.now.t c.args.self.now (λ family. IsFamily c.args.counts.now.n family × (family.size ≤ c.args.counts.now.t)) c.in-Beyond.worker
      (λ family has. let is = held_is_searched c.args.instance.now c.args.counts.now.t c.args.self.now c.in-Beyond.worker family c.requires.balanced has in
      (subst (λ n. IsFamily n family) (sym c.requires.counted) is.rules, is.small));
}

pub returns-in-Take-clause-answer : goal.returns-in-Take-clause-answer
returns-in-Take-clause-answer c =
    subst (λ event. c.take.result ≡ answer_to c.args.instance.now c.args.counts.now.t c.args.self.now event) (sym c.in-Take.is) (c.take.ensures.answer c.args.instance.now c.args.counts.now.t)

pub returns-in-Take-clause-core : goal.returns-in-Take-clause-core
returns-in-Take-clause-core c =
    subst (λ event. c.take.new.self ≡ core_after c.args.instance.now c.args.counts.now.t c.args.self.now event) (sym c.in-Take.is) (c.take.ensures.core c.args.instance.now c.args.counts.now.t)

pub returns-in-Take-clause-balanced : goal.returns-in-Take-clause-balanced
returns-in-Take-clause-balanced c =
    subst (IsCoreOf c.args.instance.now c.args.counts.now.t) (sym (c.take.ensures.core c.args.instance.now c.args.counts.now.t))
    (event_keeps c.args.instance.now c.args.counts.now.t c.args.self.now (Take c.in-Take.worker c.in-Take.place) c.requires.balanced)

pub returns-in-Proved-clause-answer : goal.returns-in-Proved-clause-answer
returns-in-Proved-clause-answer c =
    subst (λ event. IfOk c.prove.result (λ answer. answer ≡ answer_to c.args.instance.now c.args.counts.now.t c.args.self.now event)) (sym c.in-Proved.is) (c.prove.ensures.answer c.args.counts.now.t)

pub returns-in-Proved-clause-core : goal.returns-in-Proved-clause-core
returns-in-Proved-clause-core c =
    subst (λ event. OnOk c.prove.result (c.prove.new.self ≡ core_after c.args.instance.now c.args.counts.now.t c.args.self.now event)) (sym c.in-Proved.is) (c.prove.ensures.core c.args.counts.now.t)

pub returns-in-Proved-clause-balanced : goal.returns-in-Proved-clause-balanced
returns-in-Proved-clause-balanced c =
    kept_either c.args.instance.now c.args.counts.now.t c.args.self.now c.prove.result (Proved c.in-Proved.worker) c.prove.new.self (c.prove.ensures.core c.args.counts.now.t) c.prove.ensures.same c.requires.balanced

pub returns-in-Failed-clause-balanced : goal.returns-in-Failed-clause-balanced
returns-in-Failed-clause-balanced c =
    kept_either c.args.instance.now c.args.counts.now.t c.args.self.now c.fail.result (Failed c.in-Failed.worker) c.fail.new.self c.fail.ensures.core c.fail.ensures.same c.requires.balanced

pub returns-in-Beyond-clause-balanced : goal.returns-in-Beyond-clause-balanced
returns-in-Beyond-clause-balanced c =
    kept_either c.args.instance.now c.args.counts.now.t c.args.self.now c.pass_over.result (Beyond c.in-Beyond.worker c.in-Beyond.best) c.pass_over.new.self
    (c.pass_over.ensures.core c.args.instance.now c.requires.counted) c.pass_over.ensures.same c.requires.balanced
