use Rattle.std.proofs.Common.{◌≡◌, length, take}
use Rattle.extend_set.specs.Growth.{with_numbers}
use Rattle.extend_set.proofs.runs.add_numbers.Given as goal

abbrev pub invariant-loop-p : goal.invariant-loop-p
invariant-loop-p l = record {
  long : length l.set ≡ length l.initial.set;
  added : l.set ≡ with_numbers l.initial.set (take l.p-index l.numbers);
}
