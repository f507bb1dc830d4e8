use Rattle.std.proofs.Common.{◌≡◌, ◌+◌, ◌<◌, List, length, get_or, arith, sym, ap, ◌∙◌, subst}
use Rattle.expr_table.specs.declared.instance.ProbeRoots.{ProbeRoots}
use Rattle.expr_table.specs.declared.node.Row.{Row}
use Rattle.expr_table.specs.Table.{has, numbers}
use Rattle.bit_rows.proofs.Facts.{IsLeastFrom, members-none_from}
use Rattle.once_random.specs.Tuples.{roots_over}
use Rattle.live_rows.specs.Marks.{mark_at}
use Rattle.live_rows.specs.Spread.{rooted}
use Rattle.live_rows.proofs.Rooted.{probe_within, one_more_probe, member_some, member_none, below_least}
use Rattle.live_rows.proofs.begin.mark_roots.Goals as goal

pub bounds-probes-probe : goal.bounds-probes-probe
bounds-probes-probe c =
    let least : IsLeastFrom c.args.chosen.now c.loop-probe.start c.in-Some.probe = member_some c.args.chosen.now c.loop-probe.start c.in-Some.probe (sym c.in-Some.is ∙ c.chosen_from.ensures) in
    omega (arith, least.within)

pub overflow_add-start : goal.overflow_add-start
overflow_add-start c =
    let least : IsLeastFrom c.args.chosen.now c.loop-probe.start c.in-Some.probe = member_some c.args.chosen.now c.loop-probe.start c.in-Some.probe (sym c.in-Some.is ∙ c.chosen_from.ensures) in
    omega (arith, least.within)

pub loop-probe-smaller : goal.loop-probe-smaller
loop-probe-smaller c =
    let least : IsLeastFrom c.args.chosen.now c.loop-probe.start c.in-Some.probe = member_some c.args.chosen.now c.loop-probe.start c.in-Some.probe (sym c.in-Some.is ∙ c.chosen_from.ensures) in
    omega (arith, least.from, least.within)

pub mark_probe-requires-clause-within : goal.mark_probe-requires-clause-within
mark_probe-requires-clause-within c k d l =
    let least : IsLeastFrom c.args.chosen.now c.loop-probe.start c.in-Some.probe = member_some c.args.chosen.now c.loop-probe.start c.in-Some.probe (sym c.in-Some.is ∙ c.chosen_from.ensures) in
    let rows : c.as_slice.result.now ≡ c.index-probes-probe.result.rows = c.as_slice.ensures ∙ ap (λ (q : ProbeRoots). q.rows) (sym c.index-probes-probe.is) in
    let here : k < length c.index-probes-probe.result.rows = subst (λ (rs : List Row). k < length rs) rows l in
    let lt : c.in-Some.probe < length c.args.probes.now = omega (arith, least.within) in
    let low : (get_or c.index-probes-probe.result.rows k d).0 < length c.args.marks.now =
    probe_within c.args.probes.now (length c.args.marks.now) c.requires.within c.in-Some.probe c.index-probes-probe.result lt c.index-probes-probe.is k d here in
    let low' : (get_or c.as_slice.result.now k d).0 < length c.args.marks.now = subst (λ (rs : List Row). (get_or rs k d).0 < length c.args.marks.now) (sym rows) low in
    omega arith

-- the rows of one more member are roots
pub loop-probe-preserved : goal.loop-probe-preserved
loop-probe-preserved c =
    let least : IsLeastFrom c.args.chosen.now c.loop-probe.start c.in-Some.probe = member_some c.args.chosen.now c.loop-probe.start c.in-Some.probe (sym c.in-Some.is ∙ c.chosen_from.ensures) in
    let lt : c.in-Some.probe < length c.args.probes.now = omega (arith, least.within) in
    record {
      marks =
          one_more_probe c.args.probes.now c.args.chosen.now c.args.marks.now c.loop-probe.marks c.in-Some.probe (c.in-Some.probe + 1) (omega arith)
          (λ r. c.loop-probe.invariant.marks r
          ∙ ap (λ ms. rooted (has (roots_over c.args.probes.now ms) r) (mark_at c.args.marks.now r)) (sym (below_least c.args.chosen.now c.loop-probe.start c.in-Some.probe least)))
          c.mark_probe.new.marks c.index-probes-probe.result lt c.index-probes-probe.is least.is_member
          (λ r. c.mark_probe.ensures.marks r ∙ ap (λ (rs : List Row). rooted (has (numbers rs) r) (mark_at c.loop-probe.marks r)) (c.as_slice.ensures ∙ ap (λ (q : ProbeRoots). q.rows) (sym c.index-probes-probe.is)));
      found = c.mark_probe.ensures.found;
      room = c.mark_probe.ensures.room ∙ c.loop-probe.invariant.room;
      within = omega (arith, least.within);
    }

-- there is no further member
pub returns-clause-marks : goal.returns-clause-marks
returns-clause-marks c r =
    c.loop-probe.invariant.marks r
    ∙ ap (λ ms. rooted (has (roots_over c.args.probes.now ms) r) (mark_at c.args.marks.now r))
    (members-none_from c.args.chosen.now c.loop-probe.start (member_none c.args.chosen.now c.loop-probe.start (sym c.in_default.is ∙ c.chosen_from.ensures)))
