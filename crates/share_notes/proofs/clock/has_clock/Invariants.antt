use Rattle.std.proofs.Common.{◌≡◌, ◌+◌, false, slice_index_or}
use Rattle.std.specs.List.{list_any, range_with_len}
use Rattle.circuit_types.specs.declared.nets.Source.TheVariants.{Missing}
use Rattle.share_notes.specs.Known.{is_held}
use Rattle.share_notes.proofs.clock.has_clock.Given as goal

-- no bit before this one ends at a clock input
abbrev pub invariant-loop-place : goal.invariant-loop-place
invariant-loop-place l = list_any (λ k. is_held l.clocks.bits (slice_index_or l.sources (l.first + k) Missing)) (range_with_len 0 l.place) ≡ false
