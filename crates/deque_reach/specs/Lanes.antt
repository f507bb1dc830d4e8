-- What clauses say of a lane.
use Rattle.std.specs.Prelude.{◌≡◌, List}
use Rattle.std.specs.Global.{Global}
use Rattle.atomic_blocks.specs.Lent.{RowsId}
use Rattle.crossbeam_deque.specs.Handles.{view, IsPassOf}
use Rattle.probe_family.specs.declared.family.Family.{Family}
use Rattle.deque_reach.specs.declared.pass_view.PassView.{PassView}
use Rattle.deque_reach.specs.declared.lane.Lane.{Lane}
use Rattle.deque_reach.specs.Counts.{Rises}
use Rattle.deque_reach.specs.Steps.{after_take}

-- the families that were stolen with it
abbrev pub taken_by : Lane → List Family
taken_by l = (view l.pass).taken

-- it knows the same of its deque as another pass does
abbrev pub KnowsSame : PassView → Lane → Type 0
KnowsSame v l = ((view l.pass).probes ≡ v.probes) × ((view l.pass).order ≡ v.order)

-- the lane is one to this deque
abbrev pub IsLaneTo : RowsId × Global → Lane → Type 0
IsLaneTo deque l = IsPassOf deque l.pass

-- a lane stays one to its deque
abbrev pub KeepsDeque : Lane → Lane → Type 0
KeepsDeque old new = (deque : RowsId × Global) → IsLaneTo deque old → IsLaneTo deque new

-- a family was taken with the lane
pub record TakesOne (old : Lane) (family : Family) (new : Lane) : Type 0 where
  pub pass : view new.pass ≡ after_take (view old.pass) family
  pub misses : new.misses ≡ old.misses

-- the deque was found empty, which is counted, and nothing was done
pub record Misses (old new : Lane) : Type 0 where
  pub deque : KeepsDeque old new
  pub pass : view new.pass ≡ view old.pass
  pub misses : Rises old.misses new.misses
