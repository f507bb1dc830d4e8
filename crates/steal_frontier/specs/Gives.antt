-- Giving the children of the family that is held.
use Rattle.std.specs.Prelude.{◌≡◌, ◌⊎◌, List, [], ◌∷◌, ◌++◌, Some, None, reverse}
use Rattle.probe_family.specs.declared.family.Family.{Family}
use Rattle.probe_family.specs.declared.ending.Ending.{Ending}
use Rattle.deque_reach.specs.Views.{ReachView, after_push, Refuses}
use Rattle.steal_frontier.specs.Views.{SeatView}

-- Of these children the first is pushed on the deque, and the others are left for the stack; all of them are where the
-- push was refused, which is counted.
abbrev pub Offers : ReachView → List Family → ReachView → List Family → Type 0
Offers v [] w others = (w ≡ v) × (others ≡ [])
Offers v (child ∷ children) w others = ((w ≡ after_push v child) × (others ≡ children)) ⊎ (Refuses v w × (others ≡ child ∷ children))

-- The family that is held is ended so. Its children are given: the first goes on the deque, and the others on the
-- stack, the last of them first.
pub record Gives (old : SeatView) (how : Ending) (children : List Family) (new : SeatView) : Type 0 where
  pub family : Family
  pub held : old.held ≡ Some family
  pub others : List Family
  pub offered : Offers old.reach children new.reach others
  pub rest : new ≡ record old {
    reach = new.reach;
    stack = old.stack ++ reverse others;
    held = None;
    ended = old.ended ++ record { family = family; how = how } ∷ [];
  }
