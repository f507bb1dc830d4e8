use Rattle.net_build.proofs.StartLemmas.{AreMarked}
use Rattle.net_build.proofs.starts.mark_input.Given as goal

abbrev pub invariant-loop-bit : goal.invariant-loop-bit
invariant-loop-bit l = AreMarked l.wire.first l.bit l.fn.drivers l.drivers
