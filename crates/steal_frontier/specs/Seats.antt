-- What clauses say of the frontier and of a seat.
use Rattle.std.specs.Prelude.{ℕ, ◌≡◌, ◌-◌, ◌^◌, ◌≤◌, min, nat_lt, if◌then◌else◌, Option, Some, None, IsSomeAnd, List, All, length, map, vec_len, vec_capacity}
use Rattle.std.specs.List.{range_with_len}
use Rattle.probe_family.specs.declared.family.Family.{Family}
use Rattle.deque_reach.specs.Fits.{Fits}
use Rattle.deque_reach.specs.Reaches as Reaches
use Rattle.deque_reach.specs.Reaches.{deques_of, IsReachOf}
use Rattle.steal_frontier.specs.declared.frontier.Frontier.{Frontier}
use Rattle.steal_frontier.specs.declared.seat.Seat.{Seat}
use Rattle.steal_frontier.specs.Views.{SeatView, IsSound, roots_of}

-- what a seat has
abbrev pub view_of : Seat → SeatView
view_of s = record { reach = Reaches.view_of s.reach; stack = s.stack.items; held = s.held; ended = s.ended.items; roots = s.roots }

-- how many workers there are
abbrev pub workers_of : Frontier → ℕ
workers_of f = length (deques_of f.deques)

-- over how many probes the families of the frontier are
abbrev pub probes_of : Frontier → ℕ
probes_of f = Reaches.probes_of f.deques

-- how many of them their tuples have at most
abbrev pub order_of : Frontier → ℕ
order_of f = Reaches.order_of f.deques

-- the family fits the frontier
abbrev pub FitsFrontier : Frontier → Family → Type 0
FitsFrontier f family = Fits (probes_of f) (order_of f) family

-- how many families the stack has room for, as far as that can be told; none without room for one more ended family
abbrev pub room_of : Seat → Option ℕ
room_of s =
    if nat_lt (vec_len s.ended) (vec_capacity s.ended) then Some (min (vec_capacity s.stack - vec_len s.stack) (2 ^ 32 - 1)) else None

-- the seat has room to end its family with so many children
abbrev pub HasRoom : Seat → ℕ → Type 0
HasRoom s children = IsSomeAnd (room_of s) (λ room. children ≤ room)

-- the seat was made with this frontier
pub record IsSeatOf (f : Frontier) (s : Seat) : Type 0 where
  pub reach : IsReachOf f.deques s.reach
  pub sound : IsSound (view_of s)

-- the seats are all of those that were made with this frontier, in the order of their numbers
pub record AreSeatsOf (f : Frontier) (seats : List Seat) : Type 0 where
  pub each : All (IsSeatOf f) seats
  pub all : map (λ s. (view_of s).reach.number) seats ≡ range_with_len 0 (workers_of f)

-- a seat keeps its number, its frontier and its roots
pub record KeepsFrontier (old new : Seat) : Type 0 where
  pub number : (view_of new).reach.number ≡ (view_of old).reach.number
  pub frontier : (f : Frontier) → IsSeatOf f old → IsSeatOf f new
  pub roots : roots_of (view_of new) ≡ roots_of (view_of old)
