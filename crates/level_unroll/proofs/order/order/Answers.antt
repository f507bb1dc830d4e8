use Rattle.std.proofs.Common.{◌≡◌, ◌<◌, ◌-◌, ◌+◌, suc, Some, None, length, sym, ap, ◌∙◌, arith}
use Rattle.circuit_types.specs.DataSources.{data_sources}
use Rattle.circuit_types.specs.Order.{has, listed_after, order_of, next_cell}
use Rattle.circuit_types.proofs.Listing.{listed_after-none, listed_after-some}
use Rattle.level_unroll.specs.Queue.{is_in}
use Rattle.level_unroll.proofs.Turns.{marks_more, marks_none}
use Rattle.level_unroll.proofs.order.order.Goals as goal

pub loop-turn-init : goal.loop-turn-init
unfolding order_of
loop-turn-init c = record {
  queue = c.in_ok-queue.ensures.queue;
  marks = λ k. marks_none c.in_ok-queue.queue.listed.items (length c.args.nets.now.cells) c.in_ok-queue.ensures.none_listed k ∙ sym (ap (λ xs. has xs k) c.new-order.ensures.items);
  rest =
      let all : length c.args.nets.now.cells - 0 ≡ length c.args.nets.now.cells = omega arith in
      ap (λ n. listed_after (data_sources c.args.timing) c.args.nets.now n c.new-order.result.items) all
      ∙ ap (listed_after (data_sources c.args.timing) c.args.nets.now (length c.args.nets.now.cells)) c.new-order.ensures.items;
}

pub loop-turn-preserved : goal.loop-turn-preserved
loop-turn-preserved c =
    let next : Some c.in-Some.cell ≡ next_cell (data_sources c.args.timing) c.args.nets.now c.loop-turn.order.items = sym c.in-Some.is ∙ c.in_ok-cell.ensures.next c.loop-turn.order.items c.loop-turn.invariant.marks in
    let listed = rw c.in-Some.is at c.in_ok-cell.ensures.listed in
    let lt : c.in-Some.cell < length c.loop-turn.queue.listed.items = let len = c.loop-turn.invariant.queue.one_flag_each in omega (arith, listed.0) in
    let left : length c.args.nets.now.cells - c.loop-turn._turn ≡ suc (length c.args.nets.now.cells - (c.loop-turn._turn + 1)) = omega (arith, c.loop-turn-test.true, ap length c.as_slice-turn-end.ensures) in
    record {
      queue = c.in_ok-cell.ensures.queue;
      marks = λ k.
          ap (λ flags. is_in flags k) listed.1
          ∙ marks_more c.loop-turn.queue.listed.items c.loop-turn.order.items c.in-Some.cell lt c.loop-turn.invariant.marks k
          ∙ sym (ap (λ xs. has xs k) c.in_ok-push.ensures.items);
      rest =
          ap (listed_after (data_sources c.args.timing) c.args.nets.now (length c.args.nets.now.cells - (c.loop-turn._turn + 1))) c.in_ok-push.ensures.items
          ∙ sym (listed_after-some (data_sources c.args.timing) c.args.nets.now (length c.args.nets.now.cells - (c.loop-turn._turn + 1)) c.loop-turn.order.items c.in-Some.cell (sym next))
          ∙ ap (λ n. listed_after (data_sources c.args.timing) c.args.nets.now n c.loop-turn.order.items) (sym left)
          ∙ c.loop-turn.invariant.rest;
    }

pub returns-in_default : goal.returns-in_default
returns-in_default c =
    let next : None ≡ next_cell (data_sources c.args.timing) c.args.nets.now c.loop-turn.order.items = sym c.in_default.is ∙ c.in_ok-cell.ensures.next c.loop-turn.order.items c.loop-turn.invariant.marks in
    sym (listed_after-none (data_sources c.args.timing) c.args.nets.now (length c.args.nets.now.cells - c.loop-turn._turn) c.loop-turn.order.items (sym next)) ∙ c.loop-turn.invariant.rest

pub returns : goal.returns
returns c =
    let none_left : length c.args.nets.now.cells - c.loop-turn._turn ≡ 0 = omega (arith, c.loop-turn-test.false, ap length c.as_slice-turn-end.ensures) in
    ap (λ n. listed_after (data_sources c.args.timing) c.args.nets.now n c.loop-turn.order.items) (sym none_left) ∙ c.loop-turn.invariant.rest
