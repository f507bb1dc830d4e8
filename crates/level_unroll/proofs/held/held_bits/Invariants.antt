use Rattle.std.proofs.Common.{◌≡◌, ◌<◌, ◌≤◌, ℕ, None, drop, get_or, length}
use Rattle.std.specs.Option.{option_and_then}
use Rattle.circuit_types.specs.InputBits.{held_bit, role_in}
use Rattle.level_unroll.proofs.held.held_bits.Given as goal

-- the inputs from a place on are done
abbrev pub invariant-loop-rest : goal.invariant-loop-rest
invariant-loop-rest l = record {
  len : length l.bits.items ≡ l.count;
  within : l.rest ≤ length l.inputs;
  each : (b : ℕ) → b < l.count → get_or l.bits.items b None ≡ option_and_then held_bit (role_in (drop l.rest l.inputs) b);
}

abbrev pub decreases-loop-rest : goal.decreases-loop-rest
decreases-loop-rest l = l.rest
