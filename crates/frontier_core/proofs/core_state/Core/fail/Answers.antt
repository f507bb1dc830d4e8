use Rattle.std.proofs.Common.{◌≡◌, ◌∙◌, sym, ap, subst}
use Rattle.std.specs.Option.{IfSome}
use Rattle.probe_family.specs.declared.ending.Ending.TheVariants as ending
use Rattle.probe_family.specs.Least.{least_of}
use Rattle.tuple_rank.specs.Tuples.{IsTuple, rank_of}
use Rattle.extend_set.specs.Hull.{hull_of}
use Rattle.frontier_core.specs.declared.event.Event.TheVariants.{Failed}
use Rattle.frontier_core.specs.Search.{IsSearched, least_rank}
use Rattle.frontier_core.proofs.Allowed.{core_done, core_stays, is_done, is_refused, least_tuple, may_fail, may_not_fail, none_from, same_end, some_from}
use Rattle.frontier_core.proofs.core_state.Core.fail.Goals as goal

pub returns-then-is_some-clause-answer : goal.returns-then-is_some-clause-answer
returns-then-is_some-clause-answer c =
    let found = some_from c.in_ok-find_hull.field-0 (hull_of c.args.instance.now c.in-Some.family.now) c.in_ok-find_hull.ensures.hull (sym c.is_some.ensures ∙ c.if-is_some.true) in
    is_refused c.args.instance.now c.args.counts.now.t c.args.self.now (Failed c.args.worker)
    (may_not_fail c.args.instance.now c.args.counts.now.t c.args.self.now c.args.worker c.in-Some.family.now found.0 c.in-Some.ensures found.1)

pub returns-then-is_some-clause-core : goal.returns-then-is_some-clause-core
returns-then-is_some-clause-core c =
    let found = some_from c.in_ok-find_hull.field-0 (hull_of c.args.instance.now c.in-Some.family.now) c.in_ok-find_hull.ensures.hull (sym c.is_some.ensures ∙ c.if-is_some.true) in
    core_stays c.args.instance.now c.args.counts.now.t c.args.self.now (Failed c.args.worker)
    (may_not_fail c.args.instance.now c.args.counts.now.t c.args.self.now c.args.worker c.in-Some.family.now found.0 c.in-Some.ensures found.1)

pub rank-rank-requires : goal.rank-rank-requires
rank-rank-requires c =
    let is : IsSearched c.args.instance.now c.args.counts.now.t c.in-Some.family.now = subst (λ o. IfSome o (IsSearched c.args.instance.now c.args.counts.now.t)) (sym c.in-Some.ensures) c.requires.family in
    subst (IsTuple c.args.counts.now.n c.args.counts.now.t) (sym c.least.ensures)
    (subst (λ n. IsTuple n c.args.counts.now.t (least_of c.in-Some.family.now)) (sym c.requires.counted) (least_tuple _ c.args.counts.now.t c.in-Some.family.now is.rules is.small))

pub returns-clause-answer : goal.returns-clause-answer
returns-clause-answer c =
    is_done c.args.instance.now c.args.counts.now.t c.args.self.now (Failed c.args.worker)
    (may_fail c.args.instance.now c.args.counts.now.t c.args.self.now c.args.worker c.in-Some.family.now c.in-Some.ensures
    (none_from c.in_ok-find_hull.field-0 (hull_of c.args.instance.now c.in-Some.family.now) c.in_ok-find_hull.ensures.hull (sym c.is_some.ensures ∙ c.if-is_some.false)))

pub returns-clause-core : goal.returns-clause-core
returns-clause-core c =
    let rank : c.rank-rank.result ≡ least_rank c.args.instance.now c.args.counts.now.t c.in-Some.family.now =
    c.rank-rank.ensures.rank ∙ (ap (rank_of c.args.counts.now.n c.args.counts.now.t) c.least.ensures ∙ ap (λ n. rank_of n c.args.counts.now.t (least_of c.in-Some.family.now)) c.requires.counted) in
    core_done c.args.instance.now c.args.counts.now.t c.args.self.now (Failed c.args.worker) c.end.new.self
    (may_fail c.args.instance.now c.args.counts.now.t c.args.self.now c.args.worker c.in-Some.family.now c.in-Some.ensures
    (none_from c.in_ok-find_hull.field-0 (hull_of c.args.instance.now c.in-Some.family.now) c.in_ok-find_hull.ensures.hull (sym c.is_some.ensures ∙ c.if-is_some.false)))
    (same_end c.args.instance.now c.args.counts.now.t c.args.self.now c.args.worker c.in-Some.family.now (λ _. ending.Failed c.rank-rank.result) (λ family. ending.Failed (least_rank c.args.instance.now c.args.counts.now.t family))
    c.end.new.self c.in-Some.ensures (ap ending.Failed rank) c.in_ok-end.ensures.ended)
