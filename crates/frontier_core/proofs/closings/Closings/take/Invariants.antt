use Rattle.std.proofs.Common.{vec_len}
use Rattle.frontier_core.proofs.Aside.{IsAside}
use Rattle.frontier_core.proofs.closings.Closings.take.Given as goal

abbrev pub invariant-loop-closed : goal.invariant-loop-closed
invariant-loop-closed l = IsAside l.family l.fn.self l.self-inside.aside.entries l.self-inside.coming.items

abbrev pub decreases-loop-closed : goal.decreases-loop-closed
decreases-loop-closed l = vec_len l.self-inside.coming
