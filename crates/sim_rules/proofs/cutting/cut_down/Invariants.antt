use Rattle.std.proofs.Common.{◌≡◌, ◌+◌, ◌-◌, [], length}
use Rattle.bit_rows.specs.Sets.{members}
use Rattle.once_random.specs.Tuples.{roots_over}
use Rattle.live_rows.specs.Marks.{queued_count}
use Rattle.live_rows.specs.Shown.{live_count}
use Rattle.sim_rules.specs.Cutting.{IsServing}
use Rattle.sim_rules.proofs.cutting.cut_down.Given as goal

-- cuts are being made; as many rows are found as were live before any cut
abbrev pub invariant-loop-row : goal.invariant-loop-row
invariant-loop-row g l =
    let roots = roots_over l.probes (members l.chosen) in
    let nodes = g.S.Looks.nodes l.source in
    IsServing nodes roots (l.initial.steps + live_count nodes roots []) l.live l.live.alone l.steps
    × (length l.live.found ≡ live_count nodes roots [])

-- what is found and had no turn yet
abbrev pub decreases-loop-row : goal.decreases-loop-row
decreases-loop-row g l = length l.live.found + length l.live.alone - queued_count l.live.marks
