use Rattle.std.proofs.Common.{◌≡◌, ◌+◌, ◌-◌, ◌≤◌}
use Rattle.tuple_rank.specs.Choices.{choose_to}
use Rattle.tuple_rank.proofs.binomials.Binomials.sized.Given as goal

abbrev pub invariant-loop-place : goal.invariant-loop-place
invariant-loop-place l = record { some : 1 ≤ l.size; few : l.size ≤ l.self.t; place : l.rank ≡ choose_to l.self.n (l.size - 1) + l.place }

abbrev pub decreases-loop-place : goal.decreases-loop-place
decreases-loop-place l = l.self.t - l.size
