use Rattle.std.proofs.Common.{◌≡◌, ℕ, ◌&&◌, nat_lt, length}
use Rattle.bit_rows.specs.Sets.{is_in}
use Rattle.once_random.specs.Tuples.{probe_at}
use Rattle.probe_family.proofs.probe_sets.output_probes.Given as goal

abbrev pub invariant-loop-p : goal.invariant-loop-p
invariant-loop-p l = record {
  len : length l.set ≡ length l.probes;
  so_far : (k : ℕ) → is_in l.set k ≡ (nat_lt k l.p && (probe_at l.probes k).output);
}
