use Rattle.std.proofs.Common.{◌≡◌, ◌+◌, ◌-◌, All, vec_len}
use Rattle.open_count.specs.Views.{newcomer, newcomer_with}
use Rattle.open_count.specs.Seats.{view_of, IsCountSeatOf}
use Rattle.open_count.proofs.table.CountTable.make.Given as goal

abbrev pub invariant-loop : goal.invariant-loop
invariant-loop l =
    IsCountSeatOf l.table l.first
    × (view_of l.first ≡ newcomer_with (l.workers - l.counter))
    × All (IsCountSeatOf l.table) l.seats.items
    × All (λ s. view_of s ≡ newcomer) l.seats.items
    × (vec_len l.seats + 1 ≡ l.counter)
