use Rattle.std.proofs.Common.{◌≤◌}
use Rattle.certificate.proofs.NumberLists.{AscendsTo}
use Rattle.certificate.proofs.numbers.is_ascending.Given as goal

abbrev pub invariant-loop-i : goal.invariant-loop-i
invariant-loop-i l = record {
  low : 1 ≤ l.i;
  ascends : AscendsTo l.numbers l.i;
}
