use Rattle.std.proofs.Common.{◌+◌, ◌-◌, length}
use Rattle.std.specs.List.{range_with_len}
use Rattle.std.proofs.lemmas.Option.{IfSome_then}
use Rattle.deque_reach.specs.Reaches.{view_of, deques_of}
use Rattle.deque_reach.proofs.Reached.{IfNone_then}
use Rattle.steal_frontier.specs.Tries.{others_of}
use Rattle.steal_frontier.proofs.Tried.{others_at, steals_as, steals_before, steals_after, missed_as, missed_append}
use Rattle.steal_frontier.proofs.steal.steal_from_others.Goals as goal

pub returns-in-Some-clause-stolen : goal.returns-in-Some-clause-stolen
returns-in-Some-clause-stolen c =
    let workers = length (deques_of c.args.deques.now) in
    let n = c.number-number.result in
    let w = c.workers-workers.result in
    steals_as workers (view_of c.args.reach.now) (view_of c.steal_among.new.reach) c.in-Some.family _ (others_of workers c.args.reach.now.number) (others_at workers c.args.reach.now.number w n c.workers-workers.ensures c.number-number.ensures)
    (steals_before workers (view_of c.args.reach.now) (view_of c.steal_among.new.reach) c.in-Some.family (range_with_len (n + 1) (w - (n + 1))) (range_with_len 0 (n - 0)) c.in-Some.ensures.stolen)

pub returns-clause-stolen : goal.returns-clause-stolen
returns-clause-stolen c = IfSome_then c.steal_among-2.result c.steal_among-2.ensures.stolen (λ f s.
    let workers = length (deques_of c.args.deques.now) in
    let n = c.number-number.result in
    let w = c.workers-workers.result in
    steals_as workers (view_of c.args.reach.now) (view_of c.steal_among-2.new.reach) f _ (others_of workers c.args.reach.now.number) (others_at workers c.args.reach.now.number w n c.workers-workers.ensures c.number-number.ensures)
    (steals_after workers (view_of c.args.reach.now) (view_of c.steal_among-2.new.reach) f (view_of c.steal_among.new.reach) (range_with_len (n + 1) (w - (n + 1))) (range_with_len 0 (n - 0)) c.in_default.ensures.missed s))

pub returns-clause-missed : goal.returns-clause-missed
returns-clause-missed c = IfNone_then c.steal_among-2.result c.steal_among-2.ensures.missed (λ m.
    let workers = length (deques_of c.args.deques.now) in
    let n = c.number-number.result in
    let w = c.workers-workers.result in
    missed_as (view_of c.args.reach.now) (view_of c.steal_among-2.new.reach) _ (others_of workers c.args.reach.now.number) (others_at workers c.args.reach.now.number w n c.workers-workers.ensures c.number-number.ensures)
    (missed_append (view_of c.args.reach.now) (view_of c.steal_among.new.reach) (view_of c.steal_among-2.new.reach) (range_with_len (n + 1) (w - (n + 1))) (range_with_len 0 (n - 0)) c.in_default.ensures.missed m))
