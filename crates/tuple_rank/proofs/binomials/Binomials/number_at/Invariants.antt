use Rattle.std.proofs.Common.{◌-◌, ◌<◌, ◌≤◌}
use Rattle.tuple_rank.specs.Choices.{choose}
use Rattle.tuple_rank.proofs.binomials.Binomials.number_at.Given as goal

abbrev pub invariant-loop-x : goal.invariant-loop-x
invariant-loop-x l = record {
  from : l.low ≤ l.x;
  before : l.x < l.end;
  within : l.end ≤ l.self.n;
  at_least : l.ways ≤ choose (l.self.n - l.x) l.left;
  less : choose (l.self.n - l.end) l.left < l.ways;
}

abbrev pub decreases-loop-x : goal.decreases-loop-x
decreases-loop-x l = l.end - l.x
