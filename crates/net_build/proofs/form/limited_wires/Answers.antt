use Rattle.std.proofs.lemmas.Result.{err_from_is_err_and}
use Rattle.net_build.proofs.DueLemmas.{bits_due, cells_due}
use Rattle.net_build.proofs.form.limited_wires.Goals as goal

pub returns-then-cell_count-gt-MOST_CELLS-clause-due : goal.returns-then-cell_count-gt-MOST_CELLS-clause-due
returns-then-cell_count-gt-MOST_CELLS-clause-due c =
    cells_due c.args.items.now c.in_ok-wires.wires.items c.cell_count.result c.in_ok-wires.ensures.wires c.in_ok-wires.ensures.few c.cell_count.ensures
    c.if-cell_count-gt-MOST_CELLS.true

pub returns-in_err-wires-clause-due : goal.returns-in_err-wires-clause-due
returns-in_err-wires-clause-due c =
    let p = err_from_is_err_and c.from_residual.result c.from_residual.ensures.1 in
    rw (p.1, p.2) (bits_due c.args.items.now c.in_err-wires.field-0.0 c.in_err-wires.ensures.many)
