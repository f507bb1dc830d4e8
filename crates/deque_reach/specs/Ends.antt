-- Deques while they are drained.
use Rattle.std.specs.Prelude.{◌≡◌, ◌+◌, List, [], ◌∷◌, ◌++◌, All, length}
use Rattle.std.specs.List.{flat_map}
use Rattle.std.specs.Global.{Global}
use Rattle.atomic_blocks.specs.Lent.{RowsId}
use Rattle.crossbeam_deque.specs.Handles.{worker_deque, worker_flavor, worker_view}
use Rattle.probe_family.specs.declared.family.Family.{Family}
use Rattle.deque_reach.specs.declared.pass_view.PassView.{PassView}
use Rattle.deque_reach.specs.declared.lane.Lane.{Lane}
use Rattle.probe_family.specs.Often.{AsOften}
use Rattle.deque_reach.specs.Fits.{Fits}
use Rattle.deque_reach.specs.Lanes.{taken_by, IsLaneTo}
use Rattle.deque_reach.specs.Rows.{Owner}

-- the first lane is one to this deque
abbrev pub StartsTo : RowsId × Global → List Lane → Type 0
StartsTo deque [] = ⊥
StartsTo deque (l ∷ ls) = IsLaneTo deque l

-- all lanes but the first
abbrev pub others : List Lane → List Lane
others [] = []
others (l ∷ ls) = ls

-- what was taken with the first lane
abbrev pub first_taken : List Lane → List Family
first_taken [] = []
first_taken (l ∷ ls) = taken_by l

-- a pass that took in the first lane of each row
abbrev pub with_firsts : PassView → List (List Lane) → PassView
with_firsts v rows = record v { parts = v.parts + length rows; taken = v.taken ++ flat_map first_taken rows }

-- the owner's pass took in the first lane of each row
pub record JoinsFirsts (old : Owner) (rows : List (List Lane)) (new : Owner) : Type 0 where
  pub deque : worker_deque new ≡ worker_deque old
  pub flavor : worker_flavor new ≡ worker_flavor old
  pub view : worker_view new ≡ with_firsts (worker_view old) rows

-- the rest of a deque was added to what was left: what its passes pushed is what they took and this rest, as often
pub record Drains (v : PassView) (old new : List Family) : Type 0 where
  pub rest : List Family
  pub added : new ≡ old ++ rest
  pub balance : AsOften v.pushed (v.taken ++ rest)
  pub fits : All (Fits v.probes v.order) rest
