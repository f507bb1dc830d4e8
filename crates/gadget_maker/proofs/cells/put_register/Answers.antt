use Rattle.std.proofs.lemmas.Result.{on_ok_weaker}
use Rattle.circuit_types.specs.declared.signal.Signal.TheVariants as signal
use Rattle.gadget_maker.proofs.CellsPut.{register_put}
use Rattle.gadget_maker.specs.Gadget.{masked_name, kept_name}
use Rattle.gadget_maker.proofs.cells.put_register.Goals as goal

pub returns : goal.returns
returns c =
    let x = c.args.crossing in
    on_ok_weaker c.put_register.result
    (register_put c.args.listing.now c.put_register.new.self c.in_ok-masked.masked (signal.Wire (masked_name x.first x.second)) c.in_ok-kept.kept
    (signal.Wire (kept_name x.first x.second)) c.in_ok-masked.ensures c.in_ok-kept.ensures)
    c.put_register.ensures
