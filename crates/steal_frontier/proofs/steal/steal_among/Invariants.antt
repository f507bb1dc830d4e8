use Rattle.std.proofs.Common.{◌-◌}
use Rattle.std.specs.List.{range_with_len}
use Rattle.deque_reach.specs.Reaches.{view_of, KeepsDeques}
use Rattle.steal_frontier.specs.Tries.{MissesEach}
use Rattle.steal_frontier.proofs.steal.steal_among.Given as goal

abbrev pub invariant-loop-deque : goal.invariant-loop-deque
invariant-loop-deque l =
    KeepsDeques l.initial.reach l.reach × MissesEach (view_of l.initial.reach) (range_with_len l.from (l.deque - l.from)) (view_of l.reach)
