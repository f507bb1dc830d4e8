-- Deques that are tried one after the other.
use Rattle.std.specs.Prelude.{ℕ, ◌≡◌, ◌+◌, ◌-◌, ◌<◌, List, [], ◌∷◌, ◌++◌}
use Rattle.std.specs.List.{range_with_len}
use Rattle.probe_family.specs.declared.family.Family.{Family}
use Rattle.deque_reach.specs.Views.{ReachView, after_steal, Misses}

-- the other deques of so many, from the next number upwards and round
abbrev pub others_of : ℕ → ℕ → List ℕ
others_of workers number = range_with_len (number + 1) (workers - (number + 1)) ++ range_with_len 0 number

-- these deques were found empty once more, one after the other, and nothing else was done
abbrev pub MissesEach : ReachView → List ℕ → ReachView → Type 0
MissesEach v [] w = w ≡ v
MissesEach v (deque ∷ deques) w = (u : ReachView) × Misses v deque u × MissesEach u deques w

-- a family was stolen from one of these deques of so many workers, and those before it were found empty
pub record StealsFrom (workers : ℕ) (v : ReachView) (deques : List ℕ) (family : Family) (w : ReachView) : Type 0 where
  pub before : List ℕ
  pub deque : ℕ
  pub after : List ℕ
  pub order : deques ≡ before ++ deque ∷ after
  pub among : deque < workers
  pub reach : ReachView
  pub missed : MissesEach v before reach
  pub stolen : w ≡ after_steal reach deque family
