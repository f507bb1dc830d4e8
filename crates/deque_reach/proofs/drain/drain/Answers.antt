use Rattle.std.proofs.Common.{rules, ◌++◌, ◌∷◌, [], ◌∙◌, ap, append_assoc}
use Rattle.crossbeam_deque.specs.Handles.{worker_view}
use Rattle.deque_reach.proofs.Kept.{takes, balances}
use Rattle.deque_reach.proofs.Drained.{drained, took_one, took_fitting}
use Rattle.deque_reach.proofs.drain.drain.Goals as goal

pub pop_as-requires-clause-fifo : goal.pop_as-requires-clause-fifo
pop_as-requires-clause-fifo c = λ _. takes _ _ (search rules) (search rules)

pub pop_as-requires-clause-empty : goal.pop_as-requires-clause-empty
pop_as-requires-clause-empty c = balances _ _ (search rules) (search rules)

pub returns-in-None : goal.returns-in-None
returns-in-None c =
    let done = c.loop.invariant.2 in record {
      rest = done.0;
      added = done.1;
      balance = drained (worker_view c.args.owner.now) (worker_view c.loop.owner) done.0 done.2 c.in-None.ensures.rule.1;
      fits = done.3;
    }

pub loop-preserved : goal.loop-preserved
loop-preserved c =
    let done = c.loop.invariant.2 in
    let f = c.in-Some.family in (
      search rules,
      search rules,
      (
        done.0 ++ f ∷ [],
        c.in_ok-push-in-Some.ensures.items ∙ ap (λ fs. fs ++ f ∷ []) done.1 ∙ append_assoc c.args.left.now.items done.0 (f ∷ []),
        took_one (worker_view c.args.owner.now) (worker_view c.loop.owner) _ done.0 f done.2 c.in-Some.ensures.rule.0,
        took_fitting (worker_view c.args.owner.now) (worker_view c.loop.owner) done.0 f done.2 done.3 c.in-Some.ensures.rule.1,
      ),
    )
