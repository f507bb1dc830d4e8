use Rattle.std.proofs.Common.{take}
use Rattle.std.specs.List.{AllZip}
use Rattle.term_build.specs.Building.{AreRootsIn}
use Rattle.term_build.proofs.roots.probe_roots.Given as goal

abbrev pub invariant-loop-probe : goal.invariant-loop-probe
invariant-loop-probe l = AllZip (AreRootsIn l.rows) l.roots.items (take l.probe-index l.probes)
