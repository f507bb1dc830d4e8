use Rattle.std.proofs.Common.{◌+◌, true, bit_xor}
use Rattle.live_rows.specs.declared.mark.Mark.{Mark}
use Rattle.live_rows.proofs.Marks.{touched_then}
use Rattle.live_rows.proofs.begin.add_parent.Goals as goal

pub returns-clause-marks : goal.returns-clause-marks
returns-clause-marks c =
    touched_then (λ (m : Mark). record m { parents = m.parents + 1; mixed = bit_xor m.mixed c.args.parent.0; live = true })
    c.args.marks.now c.touch.new.marks c.args.row.0 c.requires.within c.touch.ensures.marks
