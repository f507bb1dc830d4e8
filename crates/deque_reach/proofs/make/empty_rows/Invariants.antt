use Rattle.std.proofs.Common.{◌≡◌, [], All, vec_len}
use Rattle.deque_reach.proofs.make.empty_rows.Given as goal

abbrev pub invariant-loop : goal.invariant-loop
invariant-loop l = (vec_len l.rows ≡ l.counter) × All (λ row. row.items ≡ []) l.rows.items
