use Rattle.std.proofs.Common.{◌≡◌, map, take, get_or}
use Rattle.term_build.specs.declared.cycle_rows.CycleRows.{CycleRows}
use Rattle.term_build.specs.Building.{row_kept}
use Rattle.term_build.proofs.roots.roots_of.Given as goal

abbrev pub invariant-loop-source : goal.invariant-loop-source
invariant-loop-source l = (d : CycleRows) → l.roots.items ≡ map (row_kept (get_or l.rows l.probe.cycle d)) (take l.source-index l.source-items)
