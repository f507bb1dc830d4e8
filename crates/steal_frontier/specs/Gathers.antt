-- The seats brought together.
use Rattle.std.specs.Prelude.{◌≡◌, List, ◌++◌, map}
use Rattle.std.specs.List.{flat_map, AllZip}
use Rattle.probe_family.specs.declared.family.Family.{Family}
use Rattle.probe_family.specs.declared.ending.Ended.{Ended}
use Rattle.probe_family.specs.Often.{AsOften}
use Rattle.deque_reach.specs.Reaches.{IsLeft}
use Rattle.steal_frontier.specs.declared.seat.Seat.{Seat}
use Rattle.probe_family.specs.Often.{families_of}
use Rattle.steal_frontier.specs.Views.{Gave, roots_of, waiting_of}
use Rattle.steal_frontier.specs.Seats.{view_of}

-- the families that all seats ended, each as it was
abbrev pub all_ended : List Seat → List Ended
all_ended seats = flat_map (λ s. (view_of s).ended) seats

-- the families that are held and on the stacks
abbrev pub all_waiting : List Seat → List Family
all_waiting seats = flat_map (λ s. waiting_of (view_of s)) seats

-- the roots of all seats
abbrev pub all_roots : List Seat → List Family
all_roots seats = flat_map (λ s. roots_of (view_of s)) seats

-- what is left: the families that are held and on the stacks, and those in the deques
pub record LeftAre (seats : List Seat) (left : List Family) : Type 0 where
  pub in_deques : List Family
  pub left_there : IsLeft (map (λ s. s.reach) seats) in_deques
  pub all : left ≡ all_waiting seats ++ in_deques

-- The balance of the frontier: where the seats gave these families, seat by seat, the ended families and those that are
-- left are the roots and the families that were given, each as often.
abbrev pub Balances : List Seat → List Ended → List Family → Type 0
Balances seats ended left =
    (given : List (List Family)) → AllZip (λ s families. Gave (view_of s) families) seats given
    → AsOften (families_of ended ++ left) (all_roots seats ++ flat_map (λ families. families) given)
