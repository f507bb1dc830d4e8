use Rattle.frontier_core.specs.Schedule.{HoldNone}
use Rattle.frontier_core.proofs.core_state.Core.first_holder.Given as goal

abbrev pub invariant-loop-worker : goal.invariant-loop-worker
invariant-loop-worker l = HoldNone l.self l.from l.worker
