use Rattle.std.proofs.Common.{rules, arith, ◌≡◌, All, Vec, length, map, ap, ◌∙◌, sym, subst}
use Rattle.std.specs.Global.{Global}
use Rattle.std.proofs.lemmas.List.Elements.{All-push, All-same}
use Rattle.crossbeam_deque.specs.Handles.{worker_deque, stealer_flavor}
use Rattle.deque_reach.specs.declared.lane.Lane.{Lane}
use Rattle.deque_reach.specs.Rows.{IsNewRow, IsNewOwner}
use Rattle.deque_reach.proofs.Made.{gained, new_owner, deques_more, thieves_more, written_back}
use Rattle.deque_reach.proofs.make.make_deques.Goals as goal

pub loop-preserved : goal.loop-preserved
loop-preserved c =
    let old = c.in_ok-owner.owner in
    let new = c.give_each.new.owner in
    let gave = c.in_ok-give_each.ensures.owner in
    let fifo = c.in_ok-owner.ensures.fifo in
    let view = c.in_ok-owner.ensures.view in
    let stealer = c.in_ok-stealer.ensures in
    let thieves = c.in_ok-push.ensures.items in
    let owners = c.in_ok-push-2.ensures.items in
    let rows = c.as_mut_slice.ensures.value in
    let count = c.as_mut_slice.ensures.len in
    let same = ap length rows in
    let before : All (λ (row : Vec Lane Global). IsNewRow (map worker_deque c.loop.owners.items) c.args.probes c.args.order row.items) c.as_mut_slice.result.now = All-same (λ (row : Vec Lane Global). IsNewRow (map worker_deque c.loop.owners.items) c.args.probes c.args.order row.items) _ _ rows c.loop.invariant.5 in (
      search rules,
      search rules,
      thieves_more c.loop.thieves.items c.push.new.self.items c.loop.owners.items c.push-in-loop.new.self.items c.in_ok-stealer.field-0 new c.loop.invariant.2 thieves owners stealer.0,
      All-same (λ s. stealer_flavor s ≡ 0) _ _ thieves (All-push (λ s. stealer_flavor s ≡ 0) c.loop.thieves.items c.in_ok-stealer.field-0 c.loop.invariant.3 (stealer.1 ∙ gave.flavor ∙ fifo)),
      All-same (IsNewOwner c.args.workers c.args.probes c.args.order) _ _ owners (All-push (IsNewOwner c.args.workers c.args.probes c.args.order) c.loop.owners.items new c.loop.invariant.4
          (new_owner c.args.workers c.args.probes c.args.order _ old new (omega arith) fifo view gave)),
      written_back (λ (row : Vec Lane Global). IsNewRow (map worker_deque c.push-in-loop.new.self.items) c.args.probes c.args.order row.items) c.loop.rows.len c.give_each.new.rows _ (omega arith)
          (subst (λ deques. All (λ (row : Vec Lane Global). IsNewRow deques c.args.probes c.args.order row.items) c.give_each.new.rows) (sym (deques_more c.loop.owners.items c.push-in-loop.new.self.items old new owners gave.deque))
          (gained (map worker_deque c.loop.owners.items) c.args.probes c.args.order old c.as_mut_slice.result.now c.give_each.new.rows (ap (λ v. v.probes) view) (ap (λ v. v.order) view) (search rules) c.in_ok-give_each.ensures.rows before)),
    )
