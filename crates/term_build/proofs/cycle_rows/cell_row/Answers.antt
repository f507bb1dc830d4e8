use Rattle.std.proofs.Common.{◌<◌, ◌∙◌, List, length, map, subst, sym, ap}
use Rattle.cell_kinds.specs.declared.kind.CellKind.{CellKind}
use Rattle.circuit_types.specs.declared.nets.Pin.{Pin}
use Rattle.circuit_types.specs.DataSources.{pin_sources}
use Rattle.expr_table.specs.declared.node.Row.{Row}
use Rattle.term_build.specs.Building.{AreRows, IsShownCell, Makes, ShowRows, row_kept}
use Rattle.term_build.specs.SourceTerms.{kept_cell_term}
use Rattle.term_build.specs.TermInstance.{kind_parts}
use Rattle.term_build.proofs.Pins.{kept-within, pins-are, pins-show}
use Rattle.expr_table.proofs.Facts.{Extends-self}
use Rattle.term_build.proofs.cycle_rows.cell_row.Goals as goal

pub gate_row-requires : goal.gate_row-requires
gate_row-requires c =
    subst (AreRows c.args.table.now.nodes) (sym (c.deref.ensures.value ∙ c.in_ok-pins-in-Gate.ensures ∙ ap (map (λ (pin : Pin). row_kept c.args.rows.now pin.source)) c.as_slice.ensures))
    (pins-are c.args.table.now.nodes c.args.rows.now c.requires.rows c.args.cell.now.pins)

pub returns-in_ok-pins-in-Gate-clause-makes : goal.returns-in_ok-pins-in-Gate-clause-makes
returns-in_ok-pins-in-Gate-clause-makes c term kept shown =
    let nodes = c.args.table.now.nodes in
    let cell = c.args.cell.now in
    let ts = map term (pin_sources cell) in
    let pins = pins-show nodes c.args.rows.now term c.requires.constants.zero_row cell.pins (subst (IsShownCell nodes c.args.timing c.args.rows.now c.args.done.now term kept cell) c.in-Gate.is shown) in
    let show = subst (λ (rows : List Row). ShowRows nodes rows ts) (sym (c.deref.ensures.value ∙ c.in_ok-pins-in-Gate.ensures ∙ ap (map (λ (pin : Pin). row_kept c.args.rows.now pin.source)) c.as_slice.ensures)) pins in
    subst (λ (kind : CellKind). Makes c.args.table.now c.gate_row.new.table (kind_parts kind ts) (kept_cell_term kept kind ts) c.gate_row.result) (sym c.in-Gate.is) (c.gate_row.ensures.makes ts show)

pub returns-in-Flop-clause-kept : goal.returns-in-Flop-clause-kept
returns-in-Flop-clause-kept c = record {
  kept = Extends-self c.args.table.now;
  within = subst (λ k. k < length c.args.table.now.nodes) (sym c.flop_row.ensures)
      (kept-within c.args.table.now.nodes c.requires.constants c.args.timing c.args.rows.now c.args.done.now c.args.cell.now _ c.requires.rows c.requires.done);
}
