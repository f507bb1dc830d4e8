use Rattle.std.proofs.Common.{◌≡◌, ◌-◌, ◌++◌, map}
use Rattle.circuit_types.specs.Bits.{numbers}
use Rattle.circuit_types.specs.declared.nets.SignalBit.TheVariants.{Net}
use Rattle.net_build.proofs.expand.push_nets.Given as goal

abbrev pub invariant-loop-bit : goal.invariant-loop-bit
invariant-loop-bit l = l.bits.items ++ map (λ k. Net k) (numbers l.bit (l.bit-end - l.bit)) ≡ l.fn.bits.items ++ map (λ k. Net k) (numbers l.first l.count)
