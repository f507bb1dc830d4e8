use Rattle.std.proofs.Common.{◌≡◌, ℕ, length}
use Rattle.frontier_core.specs.Core.{IsCoreOf}
use Rattle.frontier_core.specs.Schedule.{ComesTo, state_after}
use Rattle.frontier_core.proofs.Turns.{to_do}
use Rattle.frontier_core.proofs.core_state.Core.finish.Given as goal

abbrev pub invariant-loop-draws : goal.invariant-loop-draws
invariant-loop-draws l =
    IsCoreOf l.instance l.counts.t l.core × (length l.core.held ≡ l.workers) × (l.scratch ≡ l.initial.scratch)
    × ((n : ℕ) × (l.draws.state ≡ state_after l.seed n) × ComesTo l.instance l.counts.t l.seed n l.fn.self l.core)

abbrev pub decreases-loop-draws : goal.decreases-loop-draws
decreases-loop-draws l = to_do l.instance l.core
