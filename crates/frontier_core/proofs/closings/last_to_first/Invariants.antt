use Rattle.std.proofs.Common.{◌≡◌, ◌++◌, reverse, vec_len}
use Rattle.frontier_core.specs.Closings.{closings_of}
use Rattle.frontier_core.proofs.closings.last_to_first.Given as goal

abbrev pub invariant-loop-family : goal.invariant-loop-family
invariant-loop-family l = l.closed.items ++ reverse (closings_of l.ended.items) ≡ reverse (closings_of l.initial.ended.items)

abbrev pub decreases-loop-family : goal.decreases-loop-family
decreases-loop-family l = vec_len l.ended
