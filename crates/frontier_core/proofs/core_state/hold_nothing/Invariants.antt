use Rattle.std.proofs.Common.{◌≡◌, None, replicate}
use Rattle.frontier_core.proofs.core_state.hold_nothing.Given as goal

abbrev pub invariant-loop-worker : goal.invariant-loop-worker
invariant-loop-worker l = l.held.items ≡ replicate l._worker None
