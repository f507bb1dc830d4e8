use Rattle.std.proofs.Common.{◌≡◌, ◌-◌, ◌<◌, ◌≤◌, false, length}
use Rattle.probe_family.specs.Families.{is_in_part}
use Rattle.extend_set.specs.Growth.{IsGrownTo, with_run}
use Rattle.extend_set.proofs.growth.Growth.bisect.Given as goal

-- the set has grown to the start, and the run from there to the end may not join as a whole
abbrev pub invariant-loop-end : goal.invariant-loop-end
invariant-loop-end g l = record {
  later : l.initial.start ≤ l.start;
  order : l.start < l.end;
  within : l.end ≤ l.initial.end;
  long : length l.set ≡ length l.initial.set;
  stays : l.work ≡ l.initial.work;
  grown : IsGrownTo (g.C.Criterion.meets l.self.criterion.now) (length l.initial.set) l.self.parts.now l.self.tuple.now l.start l.set;
  misfit : g.C.Criterion.meets l.self.criterion.now (with_run l.set (is_in_part l.self.parts.now) l.start l.end) ≡ false;
}

abbrev pub decreases-loop-end : goal.decreases-loop-end
decreases-loop-end g l = l.end - l.start
