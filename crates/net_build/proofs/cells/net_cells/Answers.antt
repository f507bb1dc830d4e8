use Rattle.std.proofs.Common.{None, get_or}
use Rattle.std.proofs.lemmas.List.{get_or_default}
use Rattle.net_build.specs.declared.ports.PortCell.{PortCell}
use Rattle.net_build.proofs.CellLemmas.{cell_made, all_made}
use Rattle.net_build.proofs.cells.net_cells.Goals as goal

pub loop-cell-preserved : goal.loop-cell-preserved
loop-cell-preserved c = λ ws cs h.
    let list = c.deref-cell-items.result.now in
    let i = c.loop-cell.cell-index in
    let none : PortCell = record {
      line = 0;
      kind = None;
      inputs = record { first = 0; end = 0 };
      output_line = 0;
      output = record { first = 0; end = 0 };
    } in
    let cell = get_or list i none in
    cell_made ws c.args.sources.now cs c.args.ports.now list i cell c.loop-cell.cells.items c.push_cell.new.cells.items c.deref-cell-items.ensures.value h c.loop-cell-test.true
    (get_or_default list i none cell c.loop-cell-test.true) (c.loop-cell.invariant ws cs h) (c.in_ok-push_cell.ensures ws)

pub returns : goal.returns
returns c = λ ws cs h.
    all_made ws c.args.sources.now cs c.args.ports.now c.deref-cell-items.result.now c.loop-cell.cell-index c.loop-cell.cells.items c.deref-cell-items.ensures.value h
    c.loop-cell-test.false (c.loop-cell.invariant ws cs h)
