use Rattle.std.proofs.Common.{◌≡◌, All, map, vec_len}
use Rattle.crossbeam_deque.specs.Handles.{worker_deque, stealer_deque, stealer_flavor}
use Rattle.deque_reach.specs.Rows.{IsNewRow, IsNewOwner}
use Rattle.deque_reach.proofs.make.make_deques.Given as goal

abbrev pub invariant-loop : goal.invariant-loop
invariant-loop l =
    (vec_len l.rows ≡ l.workers)
    × (vec_len l.owners ≡ l.counter)
    × (map stealer_deque l.thieves.items ≡ map worker_deque l.owners.items)
    × All (λ s. stealer_flavor s ≡ 0) l.thieves.items
    × All (IsNewOwner l.workers l.probes l.order) l.owners.items
    × All (λ row. IsNewRow (map worker_deque l.owners.items) l.probes l.order row.items) l.rows.items
