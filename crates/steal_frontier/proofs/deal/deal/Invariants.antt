use Rattle.std.proofs.Common.{◌≡◌, ◌++◌, length}
use Rattle.std.specs.Vec.Iter.{into_iter_items}
use Rattle.steal_frontier.specs.Dealt.{DealsTo}
use Rattle.steal_frontier.proofs.deal.deal.Given as goal

abbrev pub invariant-loop-root : goal.invariant-loop-root
invariant-loop-root l =
    (l.i ≡ length l.yielded)
    × (l.workers ≡ length l.initial.seats)
    × DealsTo l.initial.seats l.yielded l.seats
    × (l.yielded ++ into_iter_items l.root-iterator ≡ l.fn.roots.items)
