use Rattle.std.proofs.Common.{◌≡◌, ◌-◌, ◌≤◌, length}
use Rattle.bit_rows.specs.Sets.{is_in}
use Rattle.extend_set.specs.Growth.{AreSameFrom, with_run}
use Rattle.extend_set.proofs.runs.add_members.Given as goal

-- the members before `from` were added
abbrev pub invariant-loop-p : goal.invariant-loop-p
invariant-loop-p l = record {
  long : length l.set ≡ length l.initial.set;
  added : l.set ≡ with_run l.initial.set (is_in l.other) l.start l.from;
  no_more : AreSameFrom l.reach l.initial.set l.set;
  reached : l.start ≤ l.reach;
  before : l.reach ≤ l.from;
  within : l.from ≤ l.end;
}

abbrev pub decreases-loop-p : goal.decreases-loop-p
decreases-loop-p l = l.end - l.from
