use Rattle.gadget_maker.proofs.CellsPut.{on_ok_three, register_cell_put}
use Rattle.gadget_maker.proofs.listing.Listing.put_register.Goals as goal

pub returns : goal.returns
returns c =
    on_ok_three c.put_cell.result (register_cell_put c.args.self.now c.put_cell.new.self c.wire-clock.result c.args.d c.args.q c.wire-clock.ensures)
    c.put_cell.ensures.listed c.put_cell.ensures.line c.put_cell.ensures.cells
