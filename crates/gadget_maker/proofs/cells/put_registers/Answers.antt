use Rattle.std.proofs.Common.{get_or, arith}
use Rattle.std.proofs.lemmas.List.{take_all, get_or_default}
use Rattle.gadget_maker.specs.Gadget.{register_cells}
use Rattle.gadget_maker.specs.declared.pairs.Crossing.{Crossing}
use Rattle.gadget_maker.proofs.Placing.{none_put, loop_room, loop_next, loop_done}
use Rattle.gadget_maker.proofs.cells.put_registers.Goals as goal

pub loop-crossing-init : goal.loop-crossing-init
loop-crossing-init c = (none_put c.args.listing.now, omega arith)

pub put_register-requires : goal.put_register-requires
put_register-requires c =
    loop_room register_cells c.args.listing.now c.loop-crossing.listing c.args.crossings.now c.loop-crossing.crossing-index c.loop-crossing-test.true c.requires c.loop-crossing.invariant.0

pub loop-crossing-preserved : goal.loop-crossing-preserved
loop-crossing-preserved c =
    let none : Crossing = record { first = 0; second = 0; random = 0 } in
    let crossing = get_or c.args.crossings.now c.loop-crossing.crossing-index none in (
      loop_next register_cells c.args.listing.now c.loop-crossing.listing c.put_register.new.listing c.args.crossings.now c.loop-crossing.crossing-index crossing c.loop-crossing-test.true
          (get_or_default c.args.crossings.now c.loop-crossing.crossing-index none crossing c.loop-crossing-test.true) c.loop-crossing.invariant.0 c.in_ok-put_register.ensures,
      omega arith,
    )

pub returns : goal.returns
returns c =
    loop_done register_cells c.args.listing.now c.loop-crossing.listing c.args.crossings.now c.loop-crossing.crossing-index
    c.loop-crossing.invariant.1
    (take_all c.loop-crossing.crossing-index c.args.crossings.now c.loop-crossing-test.false) c.loop-crossing.invariant.0
