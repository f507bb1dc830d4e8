use Rattle.std.proofs.Common.{◌<◌, ◌∙◌, length, get_or, ap, arith}
use Rattle.expr_table.specs.declared.node.Row.{Row}
use Rattle.live_rows.specs.Marks.{mark_at}
use Rattle.live_rows.proofs.Rooted.{one_more_root}
use Rattle.live_rows.proofs.begin.mark_probe.Goals as goal

pub loop-row-preserved : goal.loop-row-preserved
loop-row-preserved c =
    let none : Row = record { 0 = 0 } in
    let within : (get_or c.args.rows.now c.loop-row.row-index none).0 < length c.args.marks.now = c.requires.within c.loop-row.row-index none (omega arith) in
    record {
      marks = λ r. ap (λ ms. mark_at ms r) c.mark_root.ensures.marks
          ∙ one_more_root c.args.rows.now c.loop-row.row-index none c.args.marks.now c.loop-row.marks (omega arith) (omega arith) c.loop-row.invariant.marks r;
      found = c.mark_root.ensures.found;
      room = c.mark_root.ensures.room ∙ c.loop-row.invariant.room;
    }
