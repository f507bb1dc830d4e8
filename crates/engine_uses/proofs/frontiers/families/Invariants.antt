use Rattle.std.proofs.Common.{◌≡◌, All, vec_len}
use Rattle.deque_reach.specs.Fits.{Fits}
use Rattle.engine_uses.proofs.frontiers.families.Given as goal

abbrev pub invariant-loop-bound : goal.invariant-loop-bound
invariant-loop-bound l = All (Fits 3 2) l.families.items × (vec_len l.families ≡ l.bound-index)
