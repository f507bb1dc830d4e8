use Rattle.std.proofs.Common.{get_or, arith}
use Rattle.std.proofs.lemmas.List.{take_all, get_or_default}
use Rattle.gadget_maker.specs.Gadget.{sum_wires}
use Rattle.gadget_maker.specs.declared.pairs.Pair.{Pair}
use Rattle.gadget_maker.proofs.Placing.{none_put, loop_room, loop_next, loop_done}
use Rattle.gadget_maker.proofs.wires.put_sums.Goals as goal

pub loop-pair-init : goal.loop-pair-init
loop-pair-init c = (none_put c.args.listing.now, omega arith)

pub put_sum-requires-clause-room : goal.put_sum-requires-clause-room
put_sum-requires-clause-room c =
    loop_room (sum_wires c.args.shares) c.args.listing.now c.loop-pair.listing c.args.pairs.now c.loop-pair.pair-index c.loop-pair-test.true c.requires.room c.loop-pair.invariant.0

pub loop-pair-preserved : goal.loop-pair-preserved
loop-pair-preserved c =
    let none : Pair = record { first = 0; second = 0 } in
    let pair = get_or c.args.pairs.now c.loop-pair.pair-index none in (
      loop_next (sum_wires c.args.shares) c.args.listing.now c.loop-pair.listing c.put_sum.new.listing c.args.pairs.now c.loop-pair.pair-index pair c.loop-pair-test.true
          (get_or_default c.args.pairs.now c.loop-pair.pair-index none pair c.loop-pair-test.true) c.loop-pair.invariant.0 c.in_ok-put_sum.ensures,
      omega arith,
    )

pub returns : goal.returns
returns c =
    loop_done (sum_wires c.args.shares) c.args.listing.now c.loop-pair.listing c.args.pairs.now c.loop-pair.pair-index
    c.loop-pair.invariant.1
    (take_all c.loop-pair.pair-index c.args.pairs.now c.loop-pair-test.false) c.loop-pair.invariant.0
