use Rattle.std.proofs.Common.{refl}
use Rattle.gadget_maker.proofs.CellsPut.{all_put}
use Rattle.gadget_maker.specs.Gadget.{ports, inner_wires, all_cells}
use Rattle.gadget_maker.proofs.gadget.items_of.Goals as goal

pub returns : goal.returns
returns c =
    let d = c.args.shares in
    let ps = c.args.pairs.now in
    let xs = c.args.crossings.now in
    all_put (record { items = c.new.result; line = 3; cells = 0 }) c.put_ports.new.listing c.put_inner_wires.new.listing c.put_cells.new.listing 5 1024 1024
    (ports d) (inner_wires d ps xs) (all_cells c.args.seed d ps xs) c.new.ensures.items refl refl
    c.in_ok-put_ports.ensures c.in_ok-put_inner_wires.ensures c.in_ok-put_cells.ensures
