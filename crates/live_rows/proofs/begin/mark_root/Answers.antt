use Rattle.live_rows.specs.declared.mark.Mark.{Mark}
use Rattle.live_rows.proofs.Marks.{touched_then}
use Rattle.live_rows.proofs.begin.mark_root.Goals as goal
use Rattle.std.proofs.Common.{true}

pub returns-clause-marks : goal.returns-clause-marks
returns-clause-marks c =
    touched_then (λ (m : Mark). record m { root = true; live = true }) c.args.marks.now c.touch.new.marks c.args.row.0 c.requires.within c.touch.ensures.marks
