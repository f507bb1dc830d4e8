-- Rows of lanes: what a worker's lanes are while the deques are made, and while they are drained.
use Rattle.std.specs.Prelude.{◌≡◌, ℕ, ◌-◌, ◌<◌, List, [], ◌∷◌, ◌++◌, All, Vec, length, slice_index_or}
use Rattle.std.specs.List.{AllZip}
use Rattle.std.specs.Global.{Global}
use Rattle.atomic_blocks.specs.Lent.{RowsId}
use Rattle.crossbeam_deque.specs.declared.handles.Worker.{Worker}
use Rattle.crossbeam_deque.specs.declared.handles.Stealer.{Stealer}
use Rattle.crossbeam_deque.specs.Handles.{view, worker_deque, worker_flavor, worker_view}
use Rattle.probe_family.specs.declared.family.Family.{Family}
use Rattle.deque_reach.specs.declared.pass_view.PassView.{PassView}
use Rattle.deque_reach.specs.declared.rule.Balanced.{Balanced}
use Rattle.deque_reach.specs.declared.lane.Lane.{Lane}
use Rattle.deque_reach.specs.Rule.{all_parts}
use Rattle.deque_reach.specs.Steps.{fresh}
use Rattle.deque_reach.specs.Lanes.{IsLaneTo}

-- the owner's side of a deque
abbrev pub Owner : Type 0
Owner = Worker Family Global PassView Balanced

-- the other workers' side of a deque
abbrev pub Thief : Type 0
Thief = Stealer Family Global PassView Balanced

-- the owner gave so many parts away
pub record GivesParts (n : ℕ) (old new : Owner) : Type 0 where
  pub deque : worker_deque new ≡ worker_deque old
  pub flavor : worker_flavor new ≡ worker_flavor old
  pub view : worker_view new ≡ record (worker_view old) { parts = (worker_view old).parts - n }

-- a lane with which nothing was done yet
pub record IsNewLane (probes order : ℕ) (l : Lane) : Type 0 where
  pub view : view l.pass ≡ record (fresh probes order) { parts = 1 }
  pub misses : l.misses ≡ 0

-- a worker's row has a new lane to each of these deques
pub record IsNewRow (deques : List (RowsId × Global)) (probes order : ℕ) (row : List Lane) : Type 0 where
  pub lanes : AllZip IsLaneTo deques row
  pub new : All (IsNewLane probes order) row

-- the row gained a new lane to the owner's deque
pub record GainsLane (owner : Owner) (old new : Vec Lane Global) : Type 0 where
  pub lane : Lane
  pub items : new.items ≡ old.items ++ lane ∷ []
  pub deque : IsLaneTo (worker_deque owner) lane
  pub is_new : IsNewLane (worker_view owner).probes (worker_view owner).order lane

-- each row did
abbrev pub EachGains : Owner → List (Vec Lane Global) → List (Vec Lane Global) → Type 0
EachGains owner old new =
    (k : ℕ) (d : Vec Lane Global) → k < length old → GainsLane owner (slice_index_or old k d) (slice_index_or new k d)

-- a new deque, whose owner gave a part to each of so many workers
pub record IsNewOwner (workers probes order : ℕ) (owner : Owner) : Type 0 where
  pub fifo : worker_flavor owner ≡ 0
  pub view : worker_view owner ≡ record (fresh probes order) { parts = all_parts - workers }
