use Rattle.std.proofs.Common.{◌≡◌, map, take}
use Rattle.maskverif_cli.specs.Kept.{name_of_probe}
use Rattle.maskverif_cli.specs.Report.{probe_lines}
use Rattle.maskverif_cli.proofs.naming.probe_lines.Given as goal

-- the lines of the probes so far
abbrev pub invariant-loop-probe : goal.invariant-loop-probe
invariant-loop-probe l = l.lines.items ≡ probe_lines (map (name_of_probe l.netlist) (take l.probe-index l.numbers))
