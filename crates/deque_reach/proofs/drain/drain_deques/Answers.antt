use Rattle.std.proofs.Common.{arith, ◌≡◌, List, length, map, ap, ◌∙◌, sym, refl}
use Rattle.std.specs.Vec.Iter.{into_iter_items}
use Rattle.std.specs.Global.{Global}
use Rattle.std.specs.declared.vec.IntoIter.{IntoIter}
use Rattle.std.proofs.lemmas.List.Elements.{All-same}
use Rattle.crossbeam_deque.specs.Handles.{worker_deque}
use Rattle.deque_reach.specs.declared.lane.Lane.{Lane}
use Rattle.deque_reach.specs.Ends.{StartsTo}
use Rattle.deque_reach.proofs.Drained.{none_drained, waits, all_start, drained_as, drained_more, drained_all, all_balance, written_rows, All-from_map}
use Rattle.deque_reach.proofs.Each.{emptied_all, emptied_as, emptied_more, none_emptied}
use Rattle.deque_reach.proofs.Weights.{nil_of}
use Rattle.deque_reach.proofs.drain.drain_deques.Goals as goal

pub loop-owner-init : goal.loop-owner-init
loop-owner-init c = (
  drained_as _ _ _ _ _ _ _ _ _ _ _
      (sym (c.into_iter-owner-iterator.ensures.into_iter_gives.0 ∙ c.in_ok-owners.ensures.owners))
      (sym c.in_ok-owners.ensures.rows)
      (sym c.new-left.ensures.items)
      (none_drained c.args.deques c.args.reaches.items c.requires),
  emptied_as _ _ _ _ _ _ _ _
      (sym (c.into_iter-owner-iterator.ensures.into_iter_gives.0 ∙ c.in_ok-owners.ensures.owners))
      (sym c.in_ok-owners.ensures.rows)
      (sym c.new-left.ensures.items)
      (none_emptied (map (λ r. r.owner) c.args.reaches.items) (map (λ r. r.lanes.items) c.args.reaches.items)),
)

pub join_firsts-requires-clause-owner : goal.join_firsts-requires-clause-owner
join_firsts-requires-clause-owner c =
    let d = drained_as _ _ _ _ _ _ _ _ _ _ _ c.in-Some.ensures.steps.0 refl refl c.loop-owner.invariant.0 in
    let w = waits _ _ _ _ _ c.in-Some.owner (into_iter_items c.next.new.self) _ _ d in
    (w.begun, w.some)

pub join_firsts-requires-clause-rows : goal.join_firsts-requires-clause-rows
join_firsts-requires-clause-rows c =
    let d = drained_as _ _ _ _ _ _ _ _ _ _ _ c.in-Some.ensures.steps.0 refl refl c.loop-owner.invariant.0 in
    All-same (λ (row : IntoIter Lane Global). StartsTo (worker_deque c.in-Some.owner) (into_iter_items row)) _ _ c.as_mut_slice.ensures.value
    (All-from_map (StartsTo (worker_deque c.in-Some.owner)) into_iter_items c.loop-owner.rows.items (all_start _ _ _ _ _ c.in-Some.owner (into_iter_items c.next.new.self) _ _ d))

pub drain-requires-clause-fifo : goal.drain-requires-clause-fifo
drain-requires-clause-fifo c =
    let d = drained_as _ _ _ _ _ _ _ _ _ _ _ c.in-Some.ensures.steps.0 refl refl c.loop-owner.invariant.0 in
    let w = waits _ _ _ _ _ c.in-Some.owner (into_iter_items c.next.new.self) _ _ d in
    c.join_firsts.ensures.owner.flavor ∙ w.fifo

pub drain-requires-clause-whole : goal.drain-requires-clause-whole
drain-requires-clause-whole c =
    let d = drained_as _ _ _ _ _ _ _ _ _ _ _ c.in-Some.ensures.steps.0 refl refl c.loop-owner.invariant.0 in
    let w = waits _ _ _ _ _ c.in-Some.owner (into_iter_items c.next.new.self) _ _ d in
    let view = c.join_firsts.ensures.owner.view in
    let parts = ap (λ v. v.parts) view in
    let rows = ap (λ (rows : List (IntoIter Lane Global)). length (map into_iter_items rows)) c.as_mut_slice.ensures.value in
    let lanes = w.parts in
    let number = d.number in
    (ap (λ v. v.begun) view ∙ w.begun, omega arith)

pub loop-owner-preserved : goal.loop-owner-preserved
loop-owner-preserved c =
    let d = drained_as _ _ _ _ _ _ _ _ _ _ _ c.in-Some.ensures.steps.0 (ap (λ (rows : List (IntoIter Lane Global)). map into_iter_items rows) (sym c.as_mut_slice.ensures.value)) refl c.loop-owner.invariant.0 in
    let count : c.loop-owner.rows.len ≡ length c.join_firsts.new.rows = (let len = c.as_mut_slice.ensures.len in let same = ap length c.as_mut_slice.ensures.value in omega arith) in
    let more = drained_more _ _ _ _ _ c.in-Some.owner c.join_firsts.new.owner (into_iter_items c.next.new.self) _ _ _ d c.join_firsts.ensures.owner c.in_ok-drain.ensures in
    let e = emptied_as _ _ _ _ _ _ _ _ c.in-Some.ensures.steps.0 (ap (λ (rows : List (IntoIter Lane Global)). map into_iter_items rows) (sym c.as_mut_slice.ensures.value)) refl c.loop-owner.invariant.1 in
    let emptied = emptied_more _ _ c.in-Some.owner c.join_firsts.new.owner (into_iter_items c.next.new.self) _ _ _ e c.join_firsts.ensures.owner c.in_ok-drain.ensures in
    let rows = sym (written_rows into_iter_items c.loop-owner.rows.len c.join_firsts.new.rows _ count ∙ c.join_firsts.ensures.rows) in (
      drained_as _ _ _ _ _ _ _ _ _ _ _ refl rows refl more,
      emptied_as _ _ _ _ _ _ _ _ refl rows refl emptied,
    )

pub returns-clause-left : goal.returns-clause-left
returns-clause-left c =
    let none : length (into_iter_items c.loop-owner.owner-iterator) ≡ 0 = (let steps = c.in-None.ensures.steps in omega arith) in
    let d = drained_as _ _ _ _ _ _ _ _ _ _ _ (nil_of (into_iter_items c.loop-owner.owner-iterator) none) refl refl c.loop-owner.invariant.0 in
    all_balance c.args.reaches.items c.loop-owner.left.items (drained_all _ _ _ _ _ _ _ d)

pub returns-clause-each : goal.returns-clause-each
returns-clause-each c =
    let none : length (into_iter_items c.loop-owner.owner-iterator) ≡ 0 = (let steps = c.in-None.ensures.steps in omega arith) in
    let e = emptied_as _ _ _ _ _ _ _ _ (nil_of (into_iter_items c.loop-owner.owner-iterator) none) refl refl c.loop-owner.invariant.1 in
    emptied_all c.args.reaches.items _ c.loop-owner.left.items e
