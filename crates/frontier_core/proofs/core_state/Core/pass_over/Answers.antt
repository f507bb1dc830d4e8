use Rattle.std.proofs.Common.{◌≡◌, ◌≤◌, ◌∙◌, sym, ap, subst, refl}
use Rattle.std.specs.Option.{IfSome}
use Rattle.expr_table.specs.Table.{has}
use Rattle.probe_family.specs.declared.ending.Ending.TheVariants as ending
use Rattle.probe_family.specs.Families.{IsFamily}
use Rattle.probe_family.specs.Least.{least_of}
use Rattle.tuple_rank.specs.Tuples.{IsTuple, rank_of}
use Rattle.frontier_core.specs.declared.event.Event.TheVariants.{Beyond}
use Rattle.frontier_core.specs.Balance.{failed_ranks}
use Rattle.frontier_core.specs.Search.{least_rank}
use Rattle.frontier_core.proofs.Allowed.{any-has, core_done, core_stays, is_done, is_refused, least_tuple, may_not_pass_unknown, may_pass, same_end}
use Rattle.frontier_core.proofs.core_state.Core.pass_over.Goals as goal

pub rank-rank-requires : goal.rank-rank-requires
rank-rank-requires c =
    let is : IsFamily c.args.counts.now.n c.in-Some.family.now × (c.in-Some.family.now.size ≤ c.args.counts.now.t) =
    subst (λ o. IfSome o (λ family. IsFamily c.args.counts.now.n family × (family.size ≤ c.args.counts.now.t))) (sym c.in-Some.ensures) c.requires.family in
    subst (IsTuple c.args.counts.now.n c.args.counts.now.t) (sym c.least.ensures) (least_tuple c.args.counts.now.n c.args.counts.now.t c.in-Some.family.now is.0 is.1)

pub returns-then-not-contains-clause-answer : goal.returns-then-not-contains-clause-answer
returns-then-not-contains-clause-answer c x counted =
    let failed : c.deref.result.now ≡ failed_ranks c.args.self.now.ended = c.deref.ensures.value ∙ (c.self.invariant ∙ ap (λ s. failed_ranks s.ended) c.self.view_is) in
    is_refused x c.args.counts.now.t c.args.self.now (Beyond c.args.worker c.args.best)
    (may_not_pass_unknown x c.args.counts.now.t c.args.self.now c.args.worker c.args.best c.in-Some.family.now c.in-Some.ensures
    (ap (λ l. has l c.args.best) (sym failed) ∙ (sym (any-has c.deref.result.now c.args.best) ∙ (sym c.contains.ensures.value ∙ c.if-not-contains.true))))

pub returns-then-not-contains-clause-core : goal.returns-then-not-contains-clause-core
returns-then-not-contains-clause-core c x counted =
    let failed : c.deref.result.now ≡ failed_ranks c.args.self.now.ended = c.deref.ensures.value ∙ (c.self.invariant ∙ ap (λ s. failed_ranks s.ended) c.self.view_is) in
    core_stays x c.args.counts.now.t c.args.self.now (Beyond c.args.worker c.args.best)
    (may_not_pass_unknown x c.args.counts.now.t c.args.self.now c.args.worker c.args.best c.in-Some.family.now c.in-Some.ensures
    (ap (λ l. has l c.args.best) (sym failed) ∙ (sym (any-has c.deref.result.now c.args.best) ∙ (sym c.contains.ensures.value ∙ c.if-not-contains.true))))

pub returns-clause-answer : goal.returns-clause-answer
returns-clause-answer c x counted =
    let failed : c.deref.result.now ≡ failed_ranks c.args.self.now.ended = c.deref.ensures.value ∙ (c.self.invariant ∙ ap (λ s. failed_ranks s.ended) c.self.view_is) in
    let rank : c.rank-rank.result ≡ least_rank x c.args.counts.now.t c.in-Some.family.now =
    c.rank-rank.ensures.rank ∙ (ap (rank_of c.args.counts.now.n c.args.counts.now.t) c.least.ensures ∙ ap (λ n. rank_of n c.args.counts.now.t (least_of c.in-Some.family.now)) counted) in
    is_done x c.args.counts.now.t c.args.self.now (Beyond c.args.worker c.args.best)
    (may_pass x c.args.counts.now.t c.args.self.now c.args.worker c.args.best c.in-Some.family.now c.in-Some.ensures
    (ap (λ l. has l c.args.best) (sym failed) ∙ (sym (any-has c.deref.result.now c.args.best) ∙ (sym c.contains.ensures.value ∙ c.if-not-contains.false)))
    (subst (λ r. c.args.best ≤ r) rank c.if-best-rank.false))

pub returns-clause-core : goal.returns-clause-core
returns-clause-core c x counted =
    let failed : c.deref.result.now ≡ failed_ranks c.args.self.now.ended = c.deref.ensures.value ∙ (c.self.invariant ∙ ap (λ s. failed_ranks s.ended) c.self.view_is) in
    let rank : c.rank-rank.result ≡ least_rank x c.args.counts.now.t c.in-Some.family.now =
    c.rank-rank.ensures.rank ∙ (ap (rank_of c.args.counts.now.n c.args.counts.now.t) c.least.ensures ∙ ap (λ n. rank_of n c.args.counts.now.t (least_of c.in-Some.family.now)) counted) in
    core_done x c.args.counts.now.t c.args.self.now (Beyond c.args.worker c.args.best) c.end.new.self
    (may_pass x c.args.counts.now.t c.args.self.now c.args.worker c.args.best c.in-Some.family.now c.in-Some.ensures
    (ap (λ l. has l c.args.best) (sym failed) ∙ (sym (any-has c.deref.result.now c.args.best) ∙ (sym c.contains.ensures.value ∙ c.if-not-contains.false)))
    (subst (λ r. c.args.best ≤ r) rank c.if-best-rank.false))
    (same_end x c.args.counts.now.t c.args.self.now c.args.worker c.in-Some.family.now (λ _. ending.Beyond c.args.best) (λ family. ending.Beyond c.args.best)
    c.end.new.self c.in-Some.ensures refl c.in_ok-end.ensures.ended)
