use Rattle.std.proofs.Common.{take}
use Rattle.net_build.proofs.StartLemmas.{AreStarted}
use Rattle.net_build.proofs.starts.mark_inputs.Given as goal

abbrev pub invariant-loop-wire : goal.invariant-loop-wire
invariant-loop-wire l = AreStarted (take l.wire-index l.wires) l.drivers
