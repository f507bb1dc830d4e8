use Rattle.std.proofs.Common.{◌≡◌, take}
use Rattle.frontier_core.specs.Balance.{failed_ranks}
use Rattle.frontier_core.proofs.core_state.ranks_of.Given as goal

abbrev pub invariant-loop-one : goal.invariant-loop-one
invariant-loop-one l = l.ranks.items ≡ failed_ranks (take l.one-index l.ended)
