use Rattle.std.proofs.Common.{get_or, arith}
use Rattle.std.proofs.lemmas.List.{take_all, get_or_default}
use Rattle.gadget_maker.specs.Gadget.{product_wires}
use Rattle.gadget_maker.specs.declared.pairs.Pair.{Pair}
use Rattle.gadget_maker.proofs.Placing.{none_put, loop_room, loop_next, loop_done}
use Rattle.gadget_maker.proofs.wires.put_products.Goals as goal

pub loop-pair-init : goal.loop-pair-init
loop-pair-init c = (none_put c.args.listing.now, omega arith)

pub put_product-requires : goal.put_product-requires
put_product-requires c =
    loop_room product_wires c.args.listing.now c.loop-pair.listing c.args.pairs.now c.loop-pair.pair-index c.loop-pair-test.true c.requires c.loop-pair.invariant.0

pub loop-pair-preserved : goal.loop-pair-preserved
loop-pair-preserved c =
    let none : Pair = record { first = 0; second = 0 } in
    let pair = get_or c.args.pairs.now c.loop-pair.pair-index none in (
      loop_next product_wires c.args.listing.now c.loop-pair.listing c.put_product.new.listing c.args.pairs.now c.loop-pair.pair-index pair c.loop-pair-test.true
          (get_or_default c.args.pairs.now c.loop-pair.pair-index none pair c.loop-pair-test.true) c.loop-pair.invariant.0 c.in_ok-put_product.ensures,
      omega arith,
    )

pub returns : goal.returns
returns c =
    loop_done product_wires c.args.listing.now c.loop-pair.listing c.args.pairs.now c.loop-pair.pair-index
    c.loop-pair.invariant.1
    (take_all c.loop-pair.pair-index c.args.pairs.now c.loop-pair-test.false) c.loop-pair.invariant.0
