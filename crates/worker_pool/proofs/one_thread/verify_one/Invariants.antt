use Rattle.std.proofs.Common.{◌≡◌, length}
use Rattle.worker_pool.specs.Halfway.{IsHalfway, waiting_of}
use Rattle.frontier_core.proofs.Stacks.{visits_left}
use Rattle.worker_pool.proofs.one_thread.verify_one.Given as goal

abbrev pub invariant-loop-family : goal.invariant-loop-family
invariant-loop-family l = IsHalfway l.instance l.order (waiting_of l.search) l.search.found × (l.scratch ≡ length l.instance.table.nodes)

abbrev pub decreases-loop-family : goal.decreases-loop-family
decreases-loop-family l = visits_left l.instance (waiting_of l.search)
