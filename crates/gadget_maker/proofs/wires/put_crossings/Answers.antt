use Rattle.std.proofs.Common.{get_or, arith}
use Rattle.std.proofs.lemmas.List.{take_all, get_or_default}
use Rattle.gadget_maker.specs.Gadget.{name_of, crossing_wires}
use Rattle.gadget_maker.specs.declared.pairs.Crossing.{Crossing}
use Rattle.gadget_maker.proofs.Placing.{none_put, loop_room, loop_next, loop_done}
use Rattle.gadget_maker.proofs.wires.put_crossings.Goals as goal

pub loop-crossing-init : goal.loop-crossing-init
loop-crossing-init c = (none_put c.args.listing.now, omega arith)

pub put_crossing-requires : goal.put_crossing-requires
put_crossing-requires c =
    loop_room (crossing_wires (name_of c.args.letter)) c.args.listing.now c.loop-crossing.listing c.args.crossings.now c.loop-crossing.crossing-index c.loop-crossing-test.true c.requires c.loop-crossing.invariant.0

pub loop-crossing-preserved : goal.loop-crossing-preserved
loop-crossing-preserved c =
    let none : Crossing = record { first = 0; second = 0; random = 0 } in
    let crossing = get_or c.args.crossings.now c.loop-crossing.crossing-index none in (
      loop_next (crossing_wires (name_of c.args.letter)) c.args.listing.now c.loop-crossing.listing c.put_crossing.new.listing c.args.crossings.now c.loop-crossing.crossing-index crossing c.loop-crossing-test.true
          (get_or_default c.args.crossings.now c.loop-crossing.crossing-index none crossing c.loop-crossing-test.true) c.loop-crossing.invariant.0 c.in_ok-put_crossing.ensures,
      omega arith,
    )

pub returns : goal.returns
returns c =
    loop_done (crossing_wires (name_of c.args.letter)) c.args.listing.now c.loop-crossing.listing c.args.crossings.now c.loop-crossing.crossing-index
    c.loop-crossing.invariant.1
    (take_all c.loop-crossing.crossing-index c.args.crossings.now c.loop-crossing-test.false) c.loop-crossing.invariant.0
