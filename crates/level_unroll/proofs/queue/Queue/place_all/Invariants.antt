use Rattle.std.proofs.Common.{◌≡◌}
use Rattle.circuit_types.specs.DataSources.{data_sources}
use Rattle.level_unroll.specs.Queue.{AreWoken}
use Rattle.level_unroll.proofs.queue.Queue.place_all.Given as goal

-- the cells of the waits from this one on are left
abbrev pub invariant-loop-number : goal.invariant-loop-number
invariant-loop-number l = record {
  flags : l.self.listed ≡ l.initial.self.listed;
  woken : AreWoken (data_sources l.timing) l.nets l.self l.number;
}

abbrev pub decreases-loop-number : goal.decreases-loop-number
decreases-loop-number l = l.number
