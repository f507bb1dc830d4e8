use Rattle.std.proofs.Common.{◌≤◌, ◌-◌, length}
use Rattle.cert_check.specs.Sound.{IsSound, stage_of}
use Rattle.cert_check.proofs.Checks.{Halfway}
use Rattle.cert_check.proofs.checker.check.Given as goal

-- the lines before the place are right
abbrev pub invariant-loop-alloc : goal.invariant-loop-alloc
invariant-loop-alloc l = record {
  within : l.place ≤ length l.bytes;
  counted : l.number ≤ l.place;
  closed : l.state.closed ≤ l.number;
  sound : IsSound l.instance l.state;
  halfway : Halfway l.instance l.fn.model l.fn.order l.bytes l.number l.place (stage_of l.state);
}

abbrev pub decreases-loop-alloc : goal.decreases-loop-alloc
decreases-loop-alloc l = length l.bytes - l.place
