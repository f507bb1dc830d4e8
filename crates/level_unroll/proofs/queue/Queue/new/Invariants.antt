use Rattle.std.proofs.Common.{◌≡◌, false, nat_le, length, replicate}
use Rattle.circuit_types.specs.DataSources.{data_sources}
use Rattle.level_unroll.specs.Queue.{IsQueue}
use Rattle.level_unroll.proofs.queue.Queue.new.Given as goal

-- the cells from this one on are late
abbrev pub invariant-loop-cell : goal.invariant-loop-cell
invariant-loop-cell l = record {
  flags : l.queue.listed.items ≡ replicate (length l.nets.cells) false;
  numbers : length l.queue.latest.items ≡ length l.nets.cells;
  queue : IsQueue (data_sources l.timing) l.nets (λ k. nat_le l.cell k) l.queue;
}
