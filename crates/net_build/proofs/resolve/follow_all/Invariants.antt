use Rattle.std.proofs.Common.{◌≡◌, ◌<◌, ℕ, true, []}
use Rattle.net_build.specs.Ends.{IsSettled, is_seen}
use Rattle.net_build.proofs.resolve.follow_all.Given as goal

abbrev pub invariant-loop-bit : goal.invariant-loop-bit
invariant-loop-bit l = IsSettled l.drivers l.sources l.seen × ((k : ℕ) → k < l.bit → is_seen l.seen k ≡ true) × (l.way.items ≡ [])
