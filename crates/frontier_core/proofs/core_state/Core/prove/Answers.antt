use Rattle.std.proofs.Common.{◌≡◌, ◌∙◌, [], sym, ap, subst, Some, unwrap_or, length}
use Rattle.std.specs.Option.{IfSome}
use Rattle.probe_family.specs.Families.{IsFamily}
use Rattle.probe_family.specs.declared.ending.Ending.TheVariants as ending
use Rattle.extend_set.specs.Hull.{hull_of}
use Rattle.frontier_core.specs.declared.event.Event.TheVariants.{Proved}
use Rattle.frontier_core.proofs.Allowed.{core_done, core_stays, is_done, is_refused, may_not_prove, may_prove, same_end}
use Rattle.frontier_core.proofs.Hulls.{hull_length}
use Rattle.frontier_core.proofs.core_state.Core.prove.Goals as goal

pub children-requires : goal.children-requires
children-requires c =
    subst (λ n. IsFamily n c.in-Some.family.now)
    (sym (hull_length c.args.instance.now c.in-Some.family.now c.in-Some-2.hull (sym c.in_ok-hull.ensures.hull ∙ c.in-Some-2.is)))
    (subst (λ o. IfSome o (IsFamily (length c.args.instance.now.probes))) (sym c.in-Some.ensures) c.requires.family)

pub returns-in_ok-end-in-Some-2-clause-answer : goal.returns-in_ok-end-in-Some-2-clause-answer
returns-in_ok-end-in-Some-2-clause-answer c t =
    is_done c.args.instance.now t c.args.self.now (Proved c.args.worker)
    (may_prove c.args.instance.now t c.args.self.now c.args.worker c.in-Some.family.now c.in-Some-2.hull c.in-Some.ensures (sym c.in-Some-2.is ∙ c.in_ok-hull.ensures.hull))

pub returns-in_ok-end-in-Some-2-clause-core : goal.returns-in_ok-end-in-Some-2-clause-core
returns-in_ok-end-in-Some-2-clause-core c t =
    let found : Some c.in-Some-2.hull ≡ hull_of c.args.instance.now c.in-Some.family.now = sym c.in-Some-2.is ∙ c.in_ok-hull.ensures.hull in
    core_done c.args.instance.now t c.args.self.now (Proved c.args.worker) c.end.new.self
    (may_prove c.args.instance.now t c.args.self.now c.args.worker c.in-Some.family.now c.in-Some-2.hull c.in-Some.ensures found)
    (same_end c.args.instance.now t c.args.self.now c.args.worker c.in-Some.family.now (λ _. ending.Proved c.in-Some-2.hull) (λ family. ending.Proved (unwrap_or (hull_of c.args.instance.now family) []))
    c.end.new.self c.in-Some.ensures (ap (λ o. ending.Proved (unwrap_or o [])) found) c.in_ok-end-in-Some-2.ensures.ended)

pub returns-in-None-clause-answer : goal.returns-in-None-clause-answer
returns-in-None-clause-answer c t =
    is_refused c.args.instance.now t c.args.self.now (Proved c.args.worker)
    (may_not_prove c.args.instance.now t c.args.self.now c.args.worker c.in-Some.family.now c.in-Some.ensures (sym c.in-None.is ∙ c.in_ok-hull.ensures.hull))

pub returns-in-None-clause-core : goal.returns-in-None-clause-core
returns-in-None-clause-core c t =
    core_stays c.args.instance.now t c.args.self.now (Proved c.args.worker)
    (may_not_prove c.args.instance.now t c.args.self.now c.args.worker c.in-Some.family.now c.in-Some.ensures (sym c.in-None.is ∙ c.in_ok-hull.ensures.hull))
