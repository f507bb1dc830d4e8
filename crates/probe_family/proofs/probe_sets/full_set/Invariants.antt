use Rattle.std.proofs.Common.{◌≡◌, ℕ, ◌<◌, length, true}
use Rattle.bit_rows.specs.Sets.{is_in}
use Rattle.probe_family.proofs.probe_sets.full_set.Given as goal

abbrev pub invariant-loop-p : goal.invariant-loop-p
invariant-loop-p l = record {
  len : length l.set ≡ l.n;
  so_far : (k : ℕ) → k < l.p → is_in l.set k ≡ true;
}
