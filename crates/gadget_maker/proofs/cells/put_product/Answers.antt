use Rattle.std.proofs.Common.{codes, refl}
use Rattle.std.proofs.lemmas.Result.{on_ok_weaker}
use Rattle.circuit_types.specs.declared.signal.Signal.TheVariants as signal
use Rattle.gadget_maker.proofs.CellsPut.{gate_put}
use Rattle.gadget_maker.specs.Gadget.{bit_of, product_name}
use Rattle.gadget_maker.proofs.cells.put_product.Goals as goal

pub returns : goal.returns
returns c =
    let p = c.args.pair in
    on_ok_weaker c.put_gate.result
    (gate_put c.args.listing.now c.put_gate.new.self (codes "$_AND_") (codes "$_AND_") c.in_ok-a.a (bit_of (codes "\\a") p.first) c.in_ok-b.b
    (bit_of (codes "\\b") p.second) c.in_ok-product.product (signal.Wire (product_name p.first p.second)) refl c.in_ok-a.ensures c.in_ok-b.ensures c.in_ok-product.ensures)
    c.put_gate.ensures
