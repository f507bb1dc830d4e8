use Rattle.std.proofs.Common.{◌≡◌, ◌-◌, ◌++◌, map}
use Rattle.circuit_types.specs.Bits.{numbers, value_bit}
use Rattle.net_build.proofs.expand.push_value.Given as goal

abbrev pub invariant-loop-place : goal.invariant-loop-place
invariant-loop-place l = l.bits.items ++ map (value_bit l.value) (numbers l.place (l.place-end - l.place)) ≡ l.fn.bits.items ++ map (value_bit l.value) (numbers l.low l.count)
