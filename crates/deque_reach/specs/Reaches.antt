-- What clauses say of the deques and of a reach.
use Rattle.std.specs.Prelude.{◌≡◌, ℕ, suc, ◌+◌, ◌++◌, List, [], ◌∷◌, map, length, slice_get, slice_index_or, Some, All}
use Rattle.std.specs.List.{AllZip, flat_map, range_with_len}
use Rattle.std.specs.Global.{Global}
use Rattle.atomic_blocks.specs.Lent.{RowsId}
use Rattle.crossbeam_deque.specs.Handles.{stealer_deque, worker_deque, worker_view}
use Rattle.probe_family.specs.declared.family.Family.{Family}
use Rattle.deque_reach.specs.declared.lane.Lane.{Lane}
use Rattle.deque_reach.specs.declared.reach.Reach.{Reach}
use Rattle.deque_reach.specs.declared.deques.Deques.{Deques}
use Rattle.deque_reach.specs.Rule.{all_parts}
use Rattle.deque_reach.specs.Views.{ReachView}
use Rattle.probe_family.specs.Often.{AsOften}
use Rattle.deque_reach.specs.Lanes.{taken_by, IsLaneTo}
use Rattle.deque_reach.specs.Rows.{Owner, IsNewOwner, IsNewRow}

-- what the reach has done and counted
abbrev pub view_of : Reach → ReachView
view_of r = record {
  number = r.number;
  probes = (worker_view r.owner).probes;
  order = (worker_view r.owner).order;
  pushed = (worker_view r.owner).pushed;
  popped = (worker_view r.owner).taken;
  stolen = map taken_by r.lanes.items;
  misses = map (λ l. l.misses) r.lanes.items;
  refused = r.refused;
}

-- which deque each worker owns
abbrev pub deques_of : Deques → List (RowsId × Global)
deques_of d = map stealer_deque d.thieves.items

-- over how many probes the families of the deques are
abbrev pub probes_of : Deques → ℕ
probes_of d = d.probes

-- how many of them their tuples have at most
abbrev pub order_of : Deques → ℕ
order_of d = d.order

-- a reach among deques: it owns the one of its number, has a lane to each of them, and knows what they fit
pub record IsReachAmong (deques : List (RowsId × Global)) (over at_most : ℕ) (r : Reach) : Type 0 where
  pub own : slice_get deques r.number ≡ Some (worker_deque r.owner)
  pub lanes : AllZip IsLaneTo deques r.lanes.items
  pub parts : (worker_view r.owner).parts + length deques ≡ all_parts
  pub probes : (worker_view r.owner).probes ≡ over
  pub order : (worker_view r.owner).order ≡ at_most

-- the reach was made with these deques
abbrev pub IsReachOf : Deques → Reach → Type 0
IsReachOf d r = IsReachAmong (deques_of d) (probes_of d) (order_of d) r

-- the reaches are all of those that were made with these deques, in the order of their numbers
pub record AreReachesOf (d : Deques) (reaches : List Reach) : Type 0 where
  pub each : All (IsReachOf d) reaches
  pub all : map (λ r. r.number) reaches ≡ range_with_len 0 (length (deques_of d))

-- a reach keeps its number and its deques
pub record KeepsDeques (old new : Reach) : Type 0 where
  pub number : new.number ≡ old.number
  pub deques : (d : Deques) → IsReachOf d old → IsReachOf d new

-- the families that these reaches pushed
abbrev pub all_pushed_by : List Reach → List Family
all_pushed_by reaches = flat_map (λ r. (view_of r).pushed) reaches

-- the families that these reaches popped and stole
abbrev pub all_taken_by : List Reach → List Family
all_taken_by reaches = flat_map (λ r. (view_of r).popped ++ flat_map (λ fs. fs) (view_of r).stolen) reaches

-- what is left where these reaches come together: with what they took it is what they pushed, as often
abbrev pub IsLeft : List Reach → List Family → Type 0
IsLeft reaches left = AsOften (all_pushed_by reaches) (all_taken_by reaches ++ left)

-- the families that these reaches stole from the deque of this number
abbrev pub stolen_from : ℕ → List Reach → List Family
stolen_from number reaches = flat_map (λ r. slice_index_or (view_of r).stolen number []) reaches

-- What is left in each deque, where these reaches own the deques from this number on: with what its owner popped and all reaches
-- stole there it is what its owner pushed, as often.
abbrev pub AreLeftFrom : List Reach → ℕ → List Reach → List (List Family) → Type 0
AreLeftFrom reaches number [] [] = Unit {0}
AreLeftFrom reaches number (r ∷ rs) (left ∷ lefts) =
    AsOften (view_of r).pushed ((view_of r).popped ++ (stolen_from number reaches ++ left)) × AreLeftFrom reaches (suc number) rs lefts
AreLeftFrom reaches number [] (left ∷ lefts) = ⊥
AreLeftFrom reaches number (r ∷ rs) [] = ⊥

-- what is left is what is left in each deque, in the order of their numbers
pub record IsLeftInEach (reaches : List Reach) (left : List Family) : Type 0 where
  pub lefts : List (List Family)
  pub all : left ≡ flat_map (λ families. families) lefts
  pub each : AreLeftFrom reaches 0 reaches lefts

-- a new deque of these, with so many workers
abbrev pub IsNewOwnerOf : ℕ → Deques → Owner → Type 0
IsNewOwnerOf workers d owner = IsNewOwner workers (probes_of d) (order_of d) owner

-- a new row of lanes of these deques
abbrev pub IsNewRowOf : Deques → List Lane → Type 0
IsNewRowOf d row = IsNewRow (deques_of d) (probes_of d) (order_of d) row
