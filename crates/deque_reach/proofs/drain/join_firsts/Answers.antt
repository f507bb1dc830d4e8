use Rattle.std.proofs.Common.{rules, arith, ◌≡◌, ap, ◌∙◌}
use Rattle.std.specs.Vec.Iter.{into_iter_items}
use Rattle.std.proofs.lemmas.List.{get_or_default}
use Rattle.deque_reach.specs.Ends.{others}
use Rattle.deque_reach.proofs.Made.{map-composed}
use Rattle.deque_reach.proofs.Rowed.{each_more, rest_same}
use Rattle.deque_reach.proofs.Drained.{joins_next, map-agree}
use Rattle.deque_reach.proofs.drain.join_firsts.Goals as goal

pub loop-row-preserved : goal.loop-row-preserved
loop-row-preserved c =
    let i = c.loop-row.row-index in
    let item = c.row-item.result in
    let same = c.loop-row.invariant.2 i item (omega arith) in (
      joins_next into_iter_items c.args.owner.now c.loop-row.owner c.join_first.new.owner c.args.rows.now c.loop-row.rows i item (search rules) same c.loop-row.invariant.0 c.join_first.ensures.owner,
      each_more (λ x y. into_iter_items y ≡ others (into_iter_items x)) c.args.rows.now c.loop-row.rows i c.join_first.new.row (search rules) c.loop-row.invariant.1
          (λ d. c.join_first.ensures.row ∙ ap (λ x. others (into_iter_items x)) (same ∙ get_or_default c.args.rows.now i item d (search rules))),
      rest_same c.args.rows.now c.loop-row.rows i c.join_first.new.row c.loop-row.invariant.2,
    )

pub returns-clause-rows : goal.returns-clause-rows
returns-clause-rows c =
    map-agree into_iter_items (λ x. others (into_iter_items x)) c.args.rows.now c.loop-row.rows (search rules) (λ k d low. c.loop-row.invariant.1 k d (omega arith)) ∙ map-composed others into_iter_items c.args.rows.now
