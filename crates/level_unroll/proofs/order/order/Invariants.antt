use Rattle.std.proofs.Common.{◌≡◌, ◌-◌, ℕ, false, length}
use Rattle.circuit_types.specs.DataSources.{data_sources}
use Rattle.circuit_types.specs.Order.{has, listed_after, order_of}
use Rattle.level_unroll.specs.Queue.{is_listed, IsQueue}
use Rattle.level_unroll.proofs.order.order.Given as goal

-- the cells so far, followed by those that come next, are the order
abbrev pub invariant-loop-turn : goal.invariant-loop-turn
invariant-loop-turn l = record {
  queue : IsQueue (data_sources l.timing) l.nets (λ k. false) l.queue;
  marks : (k : ℕ) → is_listed l.queue k ≡ has l.order.items k;
  rest : listed_after (data_sources l.timing) l.nets (length l.nets.cells - l._turn) l.order.items ≡ order_of (data_sources l.timing) l.nets;
}
