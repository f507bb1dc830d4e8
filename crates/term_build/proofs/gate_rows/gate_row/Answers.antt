use Rattle.std.proofs.Common.{◌≡◌, ◌+◌, ◌-◌, ◌<◌, List, [], length, take, sym, ap, ◌∙◌, subst, arith}
use Rattle.std.proofs.lemmas.List.{take_all}
use Rattle.std.proofs.lemmas.Result.{err_from_is_err_and}
use Rattle.expr_table.specs.declared.node.Row.{Row}
use Rattle.expr_table.proofs.Facts.{Extends-self, Extends-trans}
use Rattle.term_build.specs.Building.{AreRows, MadeParts, MadeRow, ShowRows, row_at, run_parts}
use Rattle.term_build.specs.GateTerms.{gate_parts, gate_term}
use Rattle.term_build.proofs.Making.{AreRows-kept, AreRows-none, AreRows-push, ShowRows-kept}
use Rattle.term_build.proofs.MadeParts.{parts-none, parts-more, parts-stop, gate-none, gate-some}
use Rattle.term_build.proofs.gate_rows.gate_row.Goals as goal

pub loop-part-init : goal.loop-part-init
loop-part-init c = record {
  kept = Extends-self c.args.table.now;
  pins = c.requires;
  made = subst (AreRows c.args.table.now.nodes) (sym c.new-made.ensures.items) (AreRows-none c.args.table.now.nodes c.args.pins.now c.requires);
  parts = λ ts show. subst (λ (rows : List Row). MadeParts c.args.table.now c.args.table.now ts [] rows) (sym c.new-made.ensures.items)
      (parts-none c.args.table.now c.args.pins.now ts c.parts_of-part-items.result.now show);
}

pub returns-in_err-row-clause-makes : goal.returns-in_err-row-clause-makes
returns-in_err-row-clause-makes c ts show =
    let items = c.parts_of-part-items.result.now in
    let i = c.loop-part.part-index in
    let mid = c.loop-part.table in
    let so_far = c.loop-part.invariant.parts ts show in
    let pins = ShowRows-kept c.args.table.now mid so_far.grows.kept c.args.pins.now ts show in
    let made = subst (λ (rows : List Row). ShowRows mid.nodes rows (run_parts ts [] (take i items))) (sym c.deref.ensures.value) so_far.shows in
    let stops = c.in_err-row.ensures.makes ts (run_parts ts [] (take i items)) pins made in
    let p = err_from_is_err_and c.from_residual.result c.from_residual.ensures.1 in
    rw (p.1, p.2) (parts-stop c.args.table.now c.args.pins.now ts items mid i _ c.loop-part.made.items (gate_parts c.args.kind ts) c.in_err-row.field-0.0 c.loop-part-test.true (sym (c.parts_of-part-items.ensures ts)) so_far stops)

pub loop-part-preserved : goal.loop-part-preserved
loop-part-preserved c =
    let old = c.args.table.now in
    let mid = c.loop-part.table in
    let new = c.part_row.new.table in
    let items = c.parts_of-part-items.result.now in
    let i = c.loop-part.part-index in
    let kept = c.in_ok-row.ensures.kept.kept in
    let pins = AreRows-kept mid new kept c.args.pins.now c.loop-part.invariant.pins in
    let made = AreRows-kept mid new kept c.loop-part.made.items c.loop-part.invariant.made in
    record {
      kept = Extends-trans old mid new c.loop-part.invariant.kept kept;
      pins = pins;
      made = subst (AreRows new.nodes) (sym c.in_ok-push.ensures.items) (AreRows-push new.nodes c.in_ok-row.row c.loop-part.made.items made c.in_ok-row.ensures.kept.within);
      parts = λ ts show.
          let so_far = c.loop-part.invariant.parts ts show in
          let pins_show = ShowRows-kept old mid so_far.grows.kept c.args.pins.now ts show in
          let made_show = subst (λ (rows : List Row). ShowRows mid.nodes rows (run_parts ts [] (take i items))) (sym c.deref.ensures.value) so_far.shows in
          let one = c.in_ok-row.ensures.makes ts (run_parts ts [] (take i items)) pins_show made_show in
          subst (λ (rows : List Row). MadeParts old new ts (take (i + 1) items) rows) (sym c.in_ok-push.ensures.items)
          (parts-more old c.args.pins.now ts items mid new i _ c.loop-part.made.items c.in_ok-row.row c.loop-part-test.true so_far one);
    }

pub returns-then-len-eq0-clause-kept : goal.returns-then-len-eq0-clause-kept
returns-then-len-eq0-clause-kept c = record {
  kept = c.loop-part.invariant.kept;
  within = subst (λ k. k < length c.loop-part.table.nodes) (sym c.row_or_zero.ensures) (c.loop-part.invariant.pins.each 0);
}

pub returns-then-len-eq0-clause-makes : goal.returns-then-len-eq0-clause-makes
returns-then-len-eq0-clause-makes c ts show =
    let items = c.parts_of-part-items.result.now in
    subst (MadeRow c.args.table.now c.loop-part.table (gate_parts c.args.kind ts) (gate_term c.args.kind ts)) (sym c.row_or_zero.ensures)
    (gate-none c.args.kind c.args.table.now c.loop-part.table ts c.args.pins.now c.loop-part.made.items items (take c.loop-part.part-index items) (c.parts_of-part-items.ensures ts)
    (take_all c.loop-part.part-index items c.loop-part-test.false) show (c.loop-part.invariant.parts ts show) (omega (arith, c.loop-part.made.ok.0)))

pub returns-clause-kept : goal.returns-clause-kept
returns-clause-kept c = record {
  kept = c.loop-part.invariant.kept;
  within = subst (λ k. k < length c.loop-part.table.nodes) (sym (c.row_or_zero-2.ensures ∙ ap (λ rows. row_at rows (c.len-2.result - 1)) c.deref-2.ensures.value)) (c.loop-part.invariant.made.each (c.len-2.result - 1));
}

pub returns-clause-makes : goal.returns-clause-makes
returns-clause-makes c ts show =
    let items = c.parts_of-part-items.result.now in
    let last : c.len-2.result - 1 ≡ length c.loop-part.made.items - 1 = omega (arith, c.loop-part.made.ok.0) in
    subst (MadeRow c.args.table.now c.loop-part.table (gate_parts c.args.kind ts) (gate_term c.args.kind ts)) (sym (c.row_or_zero-2.ensures ∙ (λ k. row_at (c.deref-2.ensures.value k) (last k))))
    (gate-some c.args.kind c.args.table.now c.loop-part.table ts c.args.pins.now c.loop-part.made.items items (take c.loop-part.part-index items) (c.parts_of-part-items.ensures ts)
    (take_all c.loop-part.part-index items c.loop-part-test.false) show (c.loop-part.invariant.parts ts show) (λ none. absurd (omega (arith, c.loop-part.made.ok.0))))
