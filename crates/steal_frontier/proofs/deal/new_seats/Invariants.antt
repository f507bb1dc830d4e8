use Rattle.std.proofs.Common.{◌≡◌, ◌++◌, All, map}
use Rattle.std.specs.Vec.Iter.{into_iter_items}
use Rattle.steal_frontier.specs.Dealt.{IsNewSeat}
use Rattle.steal_frontier.proofs.deal.new_seats.Given as goal

abbrev pub invariant-loop-reach : goal.invariant-loop-reach
invariant-loop-reach l =
    (map (λ s. s.reach) l.seats.items ≡ l.yielded)
    × All IsNewSeat l.seats.items
    × (l.yielded ++ into_iter_items l.reach-iterator ≡ l.fn.reaches.items)
