use Rattle.std.proofs.Common.{◌≡◌, ◌-◌, ◌≤◌, length}
use Rattle.extend_set.specs.Growth.{IsGrownTo}
use Rattle.extend_set.proofs.growth.Growth.grow_from.Given as goal

-- the set has grown to the start
abbrev pub invariant-loop-start : goal.invariant-loop-start
invariant-loop-start g l = record {
  later : l.first ≤ l.start;
  within : l.start ≤ l.n;
  long : length l.set ≡ l.n;
  stays : l.work ≡ l.initial.work;
  grown : IsGrownTo (g.C.Criterion.meets l.self.criterion.now) (length l.initial.set) l.self.parts.now l.self.tuple.now l.start l.set;
}

abbrev pub decreases-loop-start : goal.decreases-loop-start
decreases-loop-start g l = l.n - l.start
