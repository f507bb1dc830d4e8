use Rattle.std.proofs.Common.{◌≡◌, take}
use Rattle.frontier_core.proofs.core_state.copy_all.Given as goal

abbrev pub invariant-loop-family : goal.invariant-loop-family
invariant-loop-family l = l.copied.items ≡ take l.family-index l.families
