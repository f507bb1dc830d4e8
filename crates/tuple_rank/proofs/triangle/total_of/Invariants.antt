use Rattle.std.proofs.Common.{◌≡◌, ◌≤◌, ◌^◌}
use Rattle.tuple_rank.specs.Choices.{choose_to}
use Rattle.tuple_rank.proofs.triangle.total_of.Given as goal

abbrev pub invariant-loop-k : goal.invariant-loop-k
invariant-loop-k l = record { sum : l.total ≡ choose_to l.n l.k; few : l.total ≤ 2 ^ 62 }
