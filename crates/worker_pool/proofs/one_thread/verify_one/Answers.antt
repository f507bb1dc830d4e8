use Rattle.std.proofs.Common.{◌≡◌, ◌≤◌, ◌<◌, ◌∙◌, [], ◌∷◌, ap, sym, subst, reverse, vec_len}
use Rattle.frontier_core.specs.Search.{IsSearched}
use Rattle.frontier_core.specs.Verdict.{IsVerdict}
use Rattle.frontier_core.specs.Work.{IsOutcome}
use Rattle.worker_pool.specs.Halfway.{IsHalfway, waiting_of}
use Rattle.worker_pool.proofs.Searches.{on_top, top_is_searched, goes_on, goes_down}
use Rattle.frontier_core.proofs.Stacks.{reverse_last, visits_left}
use Rattle.frontier_core.proofs.Places.{nothing_left}
use Rattle.worker_pool.proofs.Steps.{ends}
use Rattle.worker_pool.proofs.one_thread.verify_one.Goals as goal

pub work-requires-clause-family : goal.work-requires-clause-family
work-requires-clause-family c =
    (top_is_searched c.args.instance.now c.args.order (reverse c.pop.new.self.items) c.in-Some.family c.loop-family.search.found
    (on_top c.args.instance.now c.args.order c.loop-family.search.stack.items c.pop.new.self.items c.in-Some.family c.loop-family.search.found c.in-Some.ensures.items c.loop-family.invariant.0)).rules

pub work-requires-clause-size : goal.work-requires-clause-size
work-requires-clause-size c =
    let top : IsSearched c.args.instance.now c.args.order c.in-Some.family =
    top_is_searched c.args.instance.now c.args.order (reverse c.pop.new.self.items) c.in-Some.family c.loop-family.search.found
    (on_top c.args.instance.now c.args.order c.loop-family.search.stack.items c.pop.new.self.items c.in-Some.family c.loop-family.search.found c.in-Some.ensures.items c.loop-family.invariant.0) in
    subst (λ t. c.in-Some.family.size ≤ t) (sym (ap (λ s. s.t) c.requires.counted)) top.small

pub loop-family-preserved : goal.loop-family-preserved
loop-family-preserved c = (
  goes_on c.args.instance.now c.args.order c.in-Some.family c.in_ok-outcome.outcome (record { stack = c.pop.new.self; found = c.loop-family.search.found }) c.end.new.self
      c.rows.ensures.table c.requires.fitting
      (on_top c.args.instance.now c.args.order c.loop-family.search.stack.items c.pop.new.self.items c.in-Some.family c.loop-family.search.found c.in-Some.ensures.items c.loop-family.invariant.0)
      (subst (λ best. IsOutcome c.args.instance.now c.args.order c.in-Some.family best c.in_ok-outcome.outcome) c.best-best.ensures
      (subst (λ t. IsOutcome c.args.instance.now t c.in-Some.family c.best-best.result c.in_ok-outcome.outcome) (ap (λ s. s.t) c.requires.counted) c.in_ok-outcome.ensures.outcome))
      c.in_ok-end.ensures,
  c.work.ensures.stays_fit ∙ c.loop-family.invariant.1,
)

pub loop-family-smaller : goal.loop-family-smaller
loop-family-smaller c =
    let top : IsSearched c.args.instance.now c.args.order c.in-Some.family =
    top_is_searched c.args.instance.now c.args.order (reverse c.pop.new.self.items) c.in-Some.family c.loop-family.search.found
    (on_top c.args.instance.now c.args.order c.loop-family.search.stack.items c.pop.new.self.items c.in-Some.family c.loop-family.search.found c.in-Some.ensures.items c.loop-family.invariant.0) in
    let down : visits_left c.args.instance.now (waiting_of c.end.new.self) < visits_left c.args.instance.now (c.in-Some.family ∷ reverse c.pop.new.self.items) =
    goes_down c.args.instance.now c.args.order c.in-Some.family c.in_ok-outcome.outcome (record { stack = c.pop.new.self; found = c.loop-family.search.found }) c.end.new.self c.best-best.result top.rules
    (subst (λ t. IsOutcome c.args.instance.now t c.in-Some.family c.best-best.result c.in_ok-outcome.outcome) (ap (λ s. s.t) c.requires.counted) c.in_ok-outcome.ensures.outcome)
    c.in_ok-end.ensures in
    subst (λ l. visits_left c.args.instance.now (waiting_of c.end.new.self) < visits_left c.args.instance.now l)
    (sym (ap reverse c.in-Some.ensures.items ∙ reverse_last c.pop.new.self.items c.in-Some.family)) down

pub returns : goal.returns
returns c =
    let none : c.loop-family.search.stack.items ≡ [] = nothing_left c.loop-family.search.stack.items c.pop.new.self.items (vec_len c.loop-family.search.stack) c.in_default.ensures.items c.in_default.ensures.rest c.in_default.ensures.cases.0 in
    subst (IsVerdict c.args.instance.now c.args.order) (sym c.into_verdict.ensures)
    (ends c.args.instance.now c.args.order c.loop-family.search.found (subst (λ l. IsHalfway c.args.instance.now c.args.order (reverse l) c.loop-family.search.found) none c.loop-family.invariant.0))
