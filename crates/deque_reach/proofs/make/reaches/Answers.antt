use Rattle.std.proofs.Common.{rules, arith, ◌≡◌, length, refl, ap, ◌∙◌, sym, subst}
use Rattle.std.specs.List.{range_with_len}
use Rattle.std.proofs.lemmas.List.Elements.{All-push, All-same}
use Rattle.deque_reach.specs.Views.{new_view}
use Rattle.deque_reach.specs.Rows.{IsNewRow, IsNewOwner}
use Rattle.deque_reach.specs.Reaches.{deques_of, probes_of, order_of, IsReachOf}
use Rattle.deque_reach.proofs.Made.{next_at, All-slice_get, numbers_of, owners_count, deque_at, views_more}
use Rattle.deque_reach.proofs.make.reaches.Goals as goal

pub new_reach-requires-clause-few : goal.new_reach-requires-clause-few
new_reach-requires-clause-few c = let count = owners_count c.args.owners.items (deques_of c.args.deques.now) c.requires.deques in omega arith

pub new_reach-requires-clause-own : goal.new_reach-requires-clause-own
new_reach-requires-clause-own c =
    let next = next_at c.args.owners.items c.loop-number.number c.in-Some.owner _ (sym c.loop-number.invariant.0 ∙ c.in-Some.ensures.items) in
    deque_at c.args.owners.items (deques_of c.args.deques.now) c.loop-number.number c.in-Some.owner c.requires.deques next.0

pub new_reach-requires-clause-owner : goal.new_reach-requires-clause-owner
new_reach-requires-clause-owner c =
    let next = next_at c.args.owners.items c.loop-number.number c.in-Some.owner _ (sym c.loop-number.invariant.0 ∙ c.in-Some.ensures.items) in
    let count = owners_count c.args.owners.items (deques_of c.args.deques.now) c.requires.deques in
    subst (λ n. IsNewOwner n (probes_of c.args.deques.now) (order_of c.args.deques.now) c.in-Some.owner) (omega arith) (All-slice_get (IsNewOwner _ _ _) c.args.owners.items c.loop-number.number c.in-Some.owner c.requires.owners next.0)

pub new_reach-requires-clause-lanes : goal.new_reach-requires-clause-lanes
new_reach-requires-clause-lanes c =
    let next = next_at c.args.rows.items c.loop-number.number c.in-Some-next.lanes _ (sym c.loop-number.invariant.1 ∙ c.in-Some-next.ensures.items) in
    All-slice_get (λ row. IsNewRow (deques_of c.args.deques.now) (probes_of c.args.deques.now) (order_of c.args.deques.now) row.items) c.args.rows.items c.loop-number.number c.in-Some-next.lanes c.requires.rows next.0

pub loop-number-preserved : goal.loop-number-preserved
loop-number-preserved c =
    let owner = next_at c.args.owners.items c.loop-number.number c.in-Some.owner _ (sym c.loop-number.invariant.0 ∙ c.in-Some.ensures.items) in
    let row = next_at c.args.rows.items c.loop-number.number c.in-Some-next.lanes _ (sym c.loop-number.invariant.1 ∙ c.in-Some-next.ensures.items) in
    let count : c.len-workers.result ≡ length (deques_of c.args.deques.now) = (let n = owners_count c.args.owners.items (deques_of c.args.deques.now) c.requires.deques in omega arith) in
    let owners_left = c.in-Some.ensures.len in
    let rows_left = c.in-Some-next.ensures.len in (
      owner.1,
      row.1,
      omega arith,
      omega arith,
      search rules,
      All-same (IsReachOf c.args.deques.now) _ _ c.in_ok-push.ensures.items (All-push (IsReachOf c.args.deques.now) _ _ c.loop-number.invariant.5 c.new_reach.ensures.reach),
      views_more _ c.loop-number.number _ _ c.new_reach.result c.in_ok-push.ensures.items c.loop-number.invariant.6 (rw count c.new_reach.ensures.view),
    )

pub returns-clause-reaches : goal.returns-clause-reaches
returns-clause-reaches c =
    let count : c.loop-number.number ≡ length (deques_of c.args.deques.now) = (let n = owners_count c.args.owners.items (deques_of c.args.deques.now) c.requires.deques in omega arith) in
    let view = new_view c.len-workers.result (probes_of c.args.deques.now) (order_of c.args.deques.now) in record {
      each = c.loop-number.invariant.5;
      all = numbers_of view c.loop-number.number c.loop-number.reaches.items (λ k. refl) c.loop-number.invariant.6 ∙ ap (range_with_len 0) count;
    }
