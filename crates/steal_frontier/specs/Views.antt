-- What a seat has, and how what it gave follows from that.
use Rattle.std.specs.Prelude.{ℕ, ◌≤◌, Option, List, ◌++◌, All, IfSome, length, take, drop}
use Rattle.std.specs.List.{flat_map}
use Rattle.std.specs.Option.{option_to_list}
use Rattle.probe_family.specs.declared.family.Family.{Family}
use Rattle.probe_family.specs.declared.ending.Ended.{Ended}
use Rattle.probe_family.specs.Often.{AsOften, families_of}
use Rattle.deque_reach.specs.Fits.{Fits}
use Rattle.deque_reach.specs.Views.{ReachView}

-- What was done with the seat's reach; the families on its own stack, the top one last; the one that is held; those
-- that it ended, and how; and with how many roots its deque began.
pub record SeatView : Type 0 where
  pub reach : ReachView
  pub stack : List Family
  pub held : Option Family
  pub ended : List Ended
  pub roots : ℕ

-- the roots, which were pushed on the deque first
abbrev pub roots_of : SeatView → List Family
roots_of v = take v.roots v.reach.pushed

-- the families that were pushed on the deque later
abbrev pub pushed_later : SeatView → List Family
pushed_later v = drop v.roots v.reach.pushed

-- the families that were popped from the own deque and stolen from the others
abbrev pub taken_of : SeatView → List Family
taken_of v = v.reach.popped ++ flat_map (λ fs. fs) v.reach.stolen

-- the families that the seat is still to end: the one that is held and those on the stack
abbrev pub waiting_of : SeatView → List Family
waiting_of v = option_to_list v.held ++ v.stack

-- The balance of a seat: a family that it gave was pushed on its deque after the roots, is on its stack, is held or is
-- ended, and of these families only those that it took from a deque were not given by it. So the families that it
-- gave and those that it took are these, each as often.
abbrev pub Gave : SeatView → List Family → Type 0
Gave v given = AsOften (given ++ taken_of v) (pushed_later v ++ waiting_of v ++ families_of v.ended)

-- the family fits the deques
abbrev pub FitsSeat : SeatView → Family → Type 0
FitsSeat v family = Fits v.reach.probes v.reach.order family

-- the families of the seat fit the deques, and its roots are among those that it pushed
pub record IsSound (v : SeatView) : Type 0 where
  pub stack : All (FitsSeat v) v.stack
  pub held : IfSome v.held (FitsSeat v)
  pub ended : All (FitsSeat v) (families_of v.ended)
  pub roots : v.roots ≤ length v.reach.pushed
