use Rattle.std.proofs.Common.{◌∙◌, length, get_or, sym, ap, refl, arith, length-set}
use Rattle.std.proofs.lemmas.Result.{err_from_is_err_and}
use Rattle.expr_table.proofs.Facts.{Extends-self, Extends-trans}
use Rattle.circuit_types.specs.DataSources.{cell_at}
use Rattle.term_build.specs.SourceTerms.{assigned_term}
use Rattle.term_build.proofs.CellStep.{AreCycleRows-kept, AreCycles-kept, ShowCycles-kept, are-more, are-none, cell-more, cell-shown, cell-stop, cell-within, made-none}
use Rattle.term_build.proofs.Shown.{HasConstants-kept, kept_term}
use Rattle.term_build.proofs.cycle_rows.cell_rows.Goals as goal

pub loop-cell-init : goal.loop-cell-init
loop-cell-init c = record {
  one_each_cell = sym c.in_ok-cells.cells.ok.0 ∙ c.in_ok-cells.ensures.len ∙ ap length c.as_slice.ensures;
  kept = Extends-self c.args.table.now;
  are = are-none c.args.table.now.nodes (record { bits = c.args.bits; cells = c.in_ok-cells.cells }) _ (record { 0 = 0 }) refl (c.in_ok-cells.ensures.items_if_clones_equal (λ y e. e)) c.requires.constants c.requires.bits;
  cells = λ assigned bits before.
      made-none c.args.circuit.now c.requires.wired c.requires.levelled c.as_slice-cell-items.result.now c.as_slice-cell-items.ensures assigned
      c.args.table.now (length c.args.done.now) (record { bits = c.args.bits; cells = c.in_ok-cells.cells }) c.requires.constants bits;
}

pub bounds-as_slice-cell : goal.bounds-as_slice-cell
bounds-as_slice-cell c =
    let within = cell-within c.args.circuit.now c.requires.wired c.requires.levelled c.as_slice-cell-items.result.now c.as_slice-cell-items.ensures c.loop-cell.cell-index c.loop-cell-test.true in
    omega (arith, within, ap length c.as_slice-in-loop-cell.ensures)

pub cell_row-requires-clause-done : goal.cell_row-requires-clause-done
cell_row-requires-clause-done c = AreCycles-kept c.args.table.now c.loop-cell.table c.loop-cell.invariant.kept c.args.done.now c.requires.done

pub cell_row-requires-clause-constants : goal.cell_row-requires-clause-constants
cell_row-requires-clause-constants c = HasConstants-kept c.args.table.now c.loop-cell.table c.loop-cell.invariant.kept c.requires.constants

pub returns-in_err-row-clause-makes : goal.returns-in_err-row-clause-makes
returns-in_err-row-clause-makes c assigned bits before =
    let circuit = c.args.circuit.now in
    let old = c.args.table.now in
    let mid = c.loop-cell.table in
    let done = c.args.done.now in
    let n = length done in
    let term = assigned_term circuit.timing circuit.nets assigned in
    let items = c.as_slice-cell-items.result.now in
    let i = c.loop-cell.cell-index in
    let cell = c.index-as_slice-cell.result in
    let cells = c.as_slice-in-loop-cell.result.now in
    let so_far = c.loop-cell.invariant.cells assigned bits before in
    let shown = cell-shown circuit c.requires.wired c.requires.levelled items c.as_slice-cell-items.ensures i c.loop-cell-test.true cell cells c.as_slice-in-loop-cell.ensures c.index-as_slice-cell.is old mid assigned c.loop-cell.rows n so_far
    done refl (HasConstants-kept old mid c.loop-cell.invariant.kept c.requires.constants) (ShowCycles-kept old mid c.loop-cell.invariant.kept circuit.nets term done before) in
    let stops = c.in_err-row.ensures.makes (term n) (kept_term circuit.timing circuit.nets term n (cell_at circuit.nets (get_or items i 0))) shown in
    let p = err_from_is_err_and c.from_residual-in_err-row.result c.from_residual-in_err-row.ensures.1 in
    rw (p.1, p.2) (cell-stop circuit c.requires.wired c.requires.levelled items c.as_slice-cell-items.ensures i c.loop-cell-test.true cell cells c.as_slice-in-loop-cell.ensures c.index-as_slice-cell.is old mid assigned c.loop-cell.rows n so_far c.in_err-row.field-0.0 stops)

pub index_mut-requires : goal.index_mut-requires
index_mut-requires c =
    let within = cell-within c.args.circuit.now c.requires.wired c.requires.levelled c.as_slice-cell-items.result.now c.as_slice-cell-items.ensures c.loop-cell.cell-index c.loop-cell-test.true in
    omega (arith, within, c.loop-cell.invariant.one_each_cell, c.loop-cell.rows.cells.ok.0)

pub loop-cell-preserved : goal.loop-cell-preserved
loop-cell-preserved c =
    let circuit = c.args.circuit.now in
    let old = c.args.table.now in
    let mid = c.loop-cell.table in
    let new = c.cell_row.new.table in
    let done = c.args.done.now in
    let n = length done in
    let items = c.as_slice-cell-items.result.now in
    let i = c.loop-cell.cell-index in
    let cell = c.index-as_slice-cell.result in
    let cells = c.as_slice-in-loop-cell.result.now in
    let rows = c.loop-cell.rows in
    let within = cell-within circuit c.requires.wired c.requires.levelled items c.as_slice-cell-items.ensures i c.loop-cell-test.true in
    record {
      one_each_cell = length-set rows.cells.items _ c.in_ok-row.row ∙ c.loop-cell.invariant.one_each_cell;
      kept = Extends-trans old mid new c.loop-cell.invariant.kept c.in_ok-row.ensures.kept.kept;
      are = are-more rows _ (get_or items i 0) c.in_ok-row.row (omega (arith, within, c.loop-cell.invariant.one_each_cell)) refl refl new.nodes
          (AreCycleRows-kept mid new c.in_ok-row.ensures.kept.kept rows c.loop-cell.invariant.are) c.in_ok-row.ensures.kept.within;
      cells = λ assigned bits before.
          let term = assigned_term circuit.timing circuit.nets assigned in
          let so_far = c.loop-cell.invariant.cells assigned bits before in
          let shown = cell-shown circuit c.requires.wired c.requires.levelled items c.as_slice-cell-items.ensures i c.loop-cell-test.true cell cells c.as_slice-in-loop-cell.ensures c.index-as_slice-cell.is old mid assigned rows n so_far
          done refl (HasConstants-kept old mid c.loop-cell.invariant.kept c.requires.constants) (ShowCycles-kept old mid c.loop-cell.invariant.kept circuit.nets term done before) in
          let made = c.in_ok-row.ensures.makes (term n) (kept_term circuit.timing circuit.nets term n (cell_at circuit.nets (get_or items i 0))) shown in
          cell-more circuit c.requires.wired c.requires.levelled items c.as_slice-cell-items.ensures i c.loop-cell-test.true cell cells c.as_slice-in-loop-cell.ensures c.index-as_slice-cell.is old mid assigned rows n so_far
          new c.in_ok-row.row _ c.loop-cell.invariant.one_each_cell refl refl made;
    }
