use Rattle.std.proofs.Common.{◌≡◌, ◌≤◌, length, take}
use Rattle.probe_family.specs.Families.{is_in_part}
use Rattle.extend_set.specs.Growth.{AreSameFrom, with_run}
use Rattle.extend_set.proofs.runs.add_run.Given as goal

-- the members of the parts so far were added
abbrev pub invariant-loop-part : goal.invariant-loop-part
invariant-loop-part l = record {
  long : length l.set ≡ length l.initial.set;
  added : l.set ≡ with_run l.initial.set (is_in_part (take l.part-index l.parts)) l.start l.end;
  no_more : AreSameFrom l.reach l.initial.set l.set;
  reached : l.start ≤ l.reach;
  within : l.reach ≤ l.end;
}
