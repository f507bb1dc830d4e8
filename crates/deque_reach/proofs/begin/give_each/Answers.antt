use Rattle.std.proofs.Common.{rules, arith, get_or, subst, ◌∙◌}
use Rattle.std.proofs.lemmas.List.{get_or_default}
use Rattle.deque_reach.specs.Rows.{GainsLane}
use Rattle.deque_reach.proofs.Rowed.{gave_more, gains_from, each_more, rest_same}
use Rattle.deque_reach.proofs.begin.give_each.Goals as goal

pub loop-row-preserved : goal.loop-row-preserved
loop-row-preserved c =
    let i = c.loop-row.row-index in
    let item = c.row-item.result in
    let gains : GainsLane c.args.owner.now (get_or c.loop-row.rows i item) c.give.new.row = gains_from i c.args.owner.now c.loop-row.owner (get_or c.loop-row.rows i item) c.give.new.row c.loop-row.invariant.0 c.in_ok-give.ensures.row in (
      gave_more i c.args.owner.now c.loop-row.owner c.give.new.owner c.loop-row.invariant.0 c.in_ok-give.ensures.owner,
      each_more (GainsLane c.args.owner.now) c.args.rows.now c.loop-row.rows i c.give.new.row (search rules) c.loop-row.invariant.1
          (λ d. subst (λ r. GainsLane c.args.owner.now r c.give.new.row) (c.loop-row.invariant.2 i item (omega arith) ∙ get_or_default c.args.rows.now i item d (search rules)) gains),
      rest_same c.args.rows.now c.loop-row.rows i c.give.new.row c.loop-row.invariant.2,
    )
