-- Roots dealt to the seats in turn, and the seats that a frontier begins with.
use Rattle.std.specs.Prelude.{ℕ, ◌≡◌, ◌+◌, ◌%◌, ◌<◌, ◌==◌, if◌then◌else◌, List, [], ◌∷◌, ◌++◌, None, length, map, slice_index_or}
use Rattle.std.specs.List.{range_with_len}
use Rattle.probe_family.specs.declared.family.Family.{Family}
use Rattle.deque_reach.specs.Views.{ReachView, new_view}
use Rattle.deque_reach.specs.Reaches as Reaches
use Rattle.deque_reach.specs.Reaches.{KeepsDeques}
use Rattle.steal_frontier.specs.declared.seat.Seat.{Seat}
use Rattle.steal_frontier.specs.Views.{SeatView}
use Rattle.steal_frontier.specs.Seats.{view_of, room_of}

-- Where families are dealt to so many workers in turn, and the first of them is number k: those that the worker i gets.
-- Number k goes to the worker k modulo their number.
abbrev pub dealt_from : ℕ → ℕ → ℕ → List Family → List Family
dealt_from k workers i [] = []
dealt_from k workers i (f ∷ fs) = if k % workers == i then f ∷ dealt_from (k + 1) workers i fs else dealt_from (k + 1) workers i fs

-- those that the worker i gets where the first of them is number 0
abbrev pub dealt : ℕ → ℕ → List Family → List Family
dealt workers i families = dealt_from 0 workers i families

-- a seat with this reach, and with nothing else
abbrev pub new_seat : ReachView → SeatView
new_seat reach = record { reach = reach; stack = []; held = None; ended = []; roots = 0 }

-- the seat after these roots were pushed on its deque
abbrev pub with_roots : SeatView → List Family → SeatView
with_roots v roots = record v { reach = record v.reach { pushed = v.reach.pushed ++ roots }; roots = v.roots + length roots }

-- the seat of this number as a frontier begins
abbrev pub first_seat : ℕ → ℕ → ℕ → List Family → ℕ → SeatView
first_seat workers probes order roots number = with_roots (new_seat (new_view workers probes order number)) (dealt workers number roots)

-- the seats that a frontier begins with
abbrev pub first_seats : ℕ → ℕ → ℕ → List Family → List SeatView
first_seats workers probes order roots = map (first_seat workers probes order roots) (range_with_len 0 workers)

-- a seat was made for this reach
pub record IsNewSeat (s : Seat) : Type 0 where
  pub view : view_of s ≡ new_seat (Reaches.view_of s.reach)
  pub room : room_of s ≡ None

-- these roots were pushed on the seat's deque
pub record GainsRoots (old : Seat) (roots : List Family) (new : Seat) : Type 0 where
  pub view : view_of new ≡ with_roots (view_of old) roots
  pub deques : KeepsDeques old.reach new.reach
  pub room : room_of new ≡ room_of old

-- the roots were dealt to the seats in turn
abbrev pub DealsTo : List Seat → List Family → List Seat → Type 0
DealsTo old roots new =
    (i : ℕ) (d : Seat) → i < length old → GainsRoots (slice_index_or old i d) (dealt (length old) i roots) (slice_index_or new i d)
