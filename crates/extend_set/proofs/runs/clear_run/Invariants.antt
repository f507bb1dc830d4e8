use Rattle.std.proofs.Common.{◌≡◌, length}
use Rattle.extend_set.specs.Growth.{without_run}
use Rattle.extend_set.proofs.runs.clear_run.Given as goal

abbrev pub invariant-loop-p : goal.invariant-loop-p
invariant-loop-p l = record {
  long : length l.set ≡ length l.initial.set;
  taken : l.set ≡ without_run l.initial.set l.start l.p;
}
