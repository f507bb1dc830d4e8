use Rattle.std.proofs.Common.{◌≡◌, ◌≤◌, take}
use Rattle.command_words.specs.Numbers.{decimal}
use Rattle.command_words.proofs.number.value_within.Given as goal

-- the digits so far stand for the value
abbrev pub invariant-loop-digit : goal.invariant-loop-digit
invariant-loop-digit l = record {
  value_is : l.value ≡ decimal (take l.digit-index l.digits);
  within : l.value ≤ l.most;
}
