use Rattle.std.proofs.Common.{◌≡◌, ◌∙◌, [], refl, sym, ap, subst, Some, unwrap_or}
use Rattle.std.specs.Option.{IfSome}
use Rattle.probe_family.specs.Families.{IsFamily}
use Rattle.probe_family.specs.Least.{least_of}
use Rattle.probe_family.specs.declared.ending.Ending.TheVariants as ending
use Rattle.tuple_rank.specs.Tuples.{IsTuple, rank_of}
use Rattle.extend_set.specs.Hull.{hull_of}
use Rattle.frontier_core.specs.declared.event.Event.TheVariants.{Proved, Failed}
use Rattle.frontier_core.specs.Search.{IsSearched, least_rank}
use Rattle.frontier_core.proofs.Allowed.{core_done, least_tuple, may_fail, may_prove, same_end}
use Rattle.frontier_core.proofs.Hulls.{hull_length}
use Rattle.frontier_core.proofs.Moving.{it_moves}
use Rattle.frontier_core.proofs.core_state.Core.prove_or_fail.Goals as goal

pub children-requires : goal.children-requires
children-requires c =
    let is : IsSearched c.args.instance.now c.args.counts.now.t c.in-Some.family.now = subst (λ o. IfSome o (IsSearched c.args.instance.now c.args.counts.now.t)) (sym c.in-Some.ensures) c.requires.family in
    subst (λ n. IsFamily n c.in-Some.family.now)
    (sym (hull_length c.args.instance.now c.in-Some.family.now c.in-Some-2.hull (sym c.in_ok-hull.ensures.hull ∙ c.in-Some-2.is)))
    is.rules

pub rank-rank-requires : goal.rank-rank-requires
rank-rank-requires c =
    let is : IsSearched c.args.instance.now c.args.counts.now.t c.in-Some.family.now = subst (λ o. IfSome o (IsSearched c.args.instance.now c.args.counts.now.t)) (sym c.in-Some.ensures) c.requires.family in
    subst (IsTuple c.args.counts.now.n c.args.counts.now.t) (sym c.least.ensures)
    (subst (λ n. IsTuple n c.args.counts.now.t (least_of c.in-Some.family.now)) (sym c.requires.counted) (least_tuple _ c.args.counts.now.t c.in-Some.family.now is.rules is.small))

pub returns-in_ok-end-in-Some-2-clause-moves : goal.returns-in_ok-end-in-Some-2-clause-moves
returns-in_ok-end-in-Some-2-clause-moves c number =
    let found : Some c.in-Some-2.hull ≡ hull_of c.args.instance.now c.in-Some.family.now = sym c.in-Some-2.is ∙ c.in_ok-hull.ensures.hull in
    let may = may_prove c.args.instance.now c.args.counts.now.t c.args.self.now c.args.worker c.in-Some.family.now c.in-Some-2.hull c.in-Some.ensures found in
    it_moves c.args.instance.now c.args.counts.now.t c.args.self.now c.args.worker number (Proved c.args.worker) c.end.new.self (refl, c.requires.first) may
    (core_done c.args.instance.now c.args.counts.now.t c.args.self.now (Proved c.args.worker) c.end.new.self may
    (same_end c.args.instance.now c.args.counts.now.t c.args.self.now c.args.worker c.in-Some.family.now (λ _. ending.Proved c.in-Some-2.hull) (λ family. ending.Proved (unwrap_or (hull_of c.args.instance.now family) []))
    c.end.new.self c.in-Some.ensures (ap (λ o. ending.Proved (unwrap_or o [])) found) c.in_ok-end-in-Some-2.ensures.ended))

pub returns-in_ok-end-in-None-clause-moves : goal.returns-in_ok-end-in-None-clause-moves
returns-in_ok-end-in-None-clause-moves c number =
    let rank : c.rank-rank.result ≡ least_rank c.args.instance.now c.args.counts.now.t c.in-Some.family.now =
    c.rank-rank.ensures.rank ∙ (ap (rank_of c.args.counts.now.n c.args.counts.now.t) c.least.ensures ∙ ap (λ n. rank_of n c.args.counts.now.t (least_of c.in-Some.family.now)) c.requires.counted) in
    let may = may_fail c.args.instance.now c.args.counts.now.t c.args.self.now c.args.worker c.in-Some.family.now c.in-Some.ensures (sym c.in-None.is ∙ c.in_ok-hull.ensures.hull) in
    it_moves c.args.instance.now c.args.counts.now.t c.args.self.now c.args.worker number (Failed c.args.worker) c.end-in-None.new.self (refl, c.requires.first) may
    (core_done c.args.instance.now c.args.counts.now.t c.args.self.now (Failed c.args.worker) c.end-in-None.new.self may
    (same_end c.args.instance.now c.args.counts.now.t c.args.self.now c.args.worker c.in-Some.family.now (λ _. ending.Failed c.rank-rank.result) (λ family. ending.Failed (least_rank c.args.instance.now c.args.counts.now.t family))
    c.end-in-None.new.self c.in-Some.ensures (ap ending.Failed rank) c.in_ok-end-in-None.ensures.ended))
