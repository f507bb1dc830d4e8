use Rattle.gadget_maker.proofs.CellsPut.{on_ok_three, cell_put}
use Rattle.gadget_maker.proofs.listing.Listing.put_gate.Goals as goal

pub returns : goal.returns
returns c =
    on_ok_three c.put_cell.result (cell_put c.args.self.now c.put_cell.new.self c.args.kind.now 65 66 89 c.args.a c.args.b c.args.y)
    c.put_cell.ensures.listed c.put_cell.ensures.line c.put_cell.ensures.cells
