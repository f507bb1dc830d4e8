use Rattle.std.proofs.Common.{◌≡◌, ℕ, take}
use Rattle.std.specs.Ordering.{nat_cmp}
use Rattle.std.specs.BTreeSet.{contains}
use Rattle.circuit_types.specs.Order.{has}
use Rattle.share_notes.specs.Clocks.{clock_bits}
use Rattle.share_notes.proofs.clock.Clocks.new.Given as goal

abbrev pub invariant-loop-wire : goal.invariant-loop-wire
invariant-loop-wire l = (bit : ℕ) → contains nat_cmp l.clocks.bits bit ≡ has (clock_bits (take l.wire-index l.wires)) bit
