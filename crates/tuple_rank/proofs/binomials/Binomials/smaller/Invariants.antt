use Rattle.std.proofs.Common.{◌≡◌}
use Rattle.tuple_rank.specs.Choices.{choose_to}
use Rattle.tuple_rank.proofs.binomials.Binomials.smaller.Given as goal

abbrev pub invariant-loop-k : goal.invariant-loop-k
invariant-loop-k l = l.count ≡ choose_to l.self.n l.k
