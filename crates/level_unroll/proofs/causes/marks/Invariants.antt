use Rattle.std.proofs.Common.{◌≡◌, ℕ, length, take}
use Rattle.circuit_types.specs.Order.{has}
use Rattle.level_unroll.specs.Queue.{is_in}
use Rattle.level_unroll.proofs.causes.marks.Given as goal

abbrev pub invariant-loop-number : goal.invariant-loop-number
invariant-loop-number l = record {
  len : length l.flags.items ≡ l.count;
  marks : (k : ℕ) → is_in l.flags.items k ≡ has (take l.number-index l.numbers) k;
}
