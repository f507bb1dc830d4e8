-- Taking a family.
use Rattle.std.specs.Prelude.{ℕ, ◌≡◌, ◌<◌, [], ◌∷◌, ◌++◌, Some, slice_index}
use Rattle.probe_family.specs.declared.family.Family.{Family}
use Rattle.deque_reach.specs.Counts.{Rises}
use Rattle.deque_reach.specs.Views.{ReachView, after_pop, Misses}
use Rattle.steal_frontier.specs.declared.take.Take.{Take}
use Rattle.steal_frontier.specs.declared.take.Take.TheVariants.{Held, Nothing}
use Rattle.steal_frontier.specs.Views.{SeatView}
use Rattle.steal_frontier.specs.Tries.{others_of, MissesEach, StealsFrom}

-- the family was the top one of the stack
pub record FromStack (old : SeatView) (family : Family) (new : SeatView) : Type 0 where
  pub stack : old.stack ≡ new.stack ++ family ∷ []
  pub rest : new ≡ record old { stack = new.stack }

-- the stack was empty, and the family was popped from the own deque
pub record FromDeque (old : SeatView) (family : Family) (new : SeatView) : Type 0 where
  pub stack : old.stack ≡ []
  pub rest : new ≡ record old { reach = after_pop old.reach family }

-- the stack and the own deque were empty, and the family was stolen from another
pub record FromOther (workers : ℕ) (old : SeatView) (family : Family) (new : SeatView) : Type 0 where
  pub stack : old.stack ≡ []
  pub reach : ReachView
  pub missed : Misses old.reach old.reach.number reach
  pub stolen : StealsFrom workers reach (others_of workers old.reach.number) family new.reach
  pub rest : new ≡ record old { reach = new.reach }

-- where a family is found
pub data Finds (workers : ℕ) (old : SeatView) (family : Family) (new : SeatView) : Type 0 where
  on_stack : FromStack old family new → Finds workers old family new
  on_own_deque : FromDeque old family new → Finds workers old family new
  on_another : FromOther workers old family new → Finds workers old family new

-- the stack was empty, and each deque was found empty once more
pub record FindsNothing (workers : ℕ) (old new : SeatView) : Type 0 where
  pub stack : old.stack ≡ []
  pub missed : MissesEach old.reach (old.reach.number ∷ others_of workers old.reach.number) new.reach
  pub each : (deque : ℕ) → deque < workers → Rises (slice_index old.reach.misses deque) (slice_index new.reach.misses deque)
  pub rest : new ≡ record old { reach = new.reach }

-- a family that was found is held
pub record Holds (workers : ℕ) (old new : SeatView) : Type 0 where
  pub family : Family
  pub before : SeatView
  pub found : Finds workers old family before
  pub held : new ≡ record before { held = Some family }

-- what a seat takes
abbrev pub Takes : ℕ → SeatView → Take → SeatView → Type 0
Takes workers old Held new = Holds workers old new
Takes workers old Nothing new = FindsNothing workers old new
