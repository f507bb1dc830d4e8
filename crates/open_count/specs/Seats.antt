-- What clauses say of a table and of its seats.
use Rattle.std.specs.Prelude.{◌≡◌, ℕ}
use Rattle.open_count.specs.declared.view.CountView.{CountView}
use Rattle.open_count.specs.declared.table.CountSeat.{CountSeat}
use Rattle.open_count.specs.declared.table.CountTable.{CountTable}

-- what the seat has done and seen
abbrev pub view_of : CountSeat → CountView
view_of s = s.seat.me.0

-- with how many open families the table began
abbrev pub roots_of : CountTable → ℕ
roots_of t = t.table.shared.key.roots

-- how many seats there are and may still be made
abbrev pub seats_of : CountTable → ℕ
seats_of t = t.table.shared.key.workers

-- the seat is one of the table's
abbrev pub IsCountSeatOf : CountTable → CountSeat → Type 0
IsCountSeatOf t s = s.seat.table_id ≡ t.table.shared.table_id
