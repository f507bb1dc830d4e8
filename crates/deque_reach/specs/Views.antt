-- What a worker's reach has done and counted, and what its calls change of that.
use Rattle.std.specs.Prelude.{◌≡◌, ℕ, List, [], ◌∷◌, ◌++◌, map, replicate, slice_set, slice_index, slice_index_or}
use Rattle.std.specs.List.{range_with_len}
use Rattle.probe_family.specs.declared.family.Family.{Family}
use Rattle.deque_reach.specs.Counts.{Rises}

-- The number of the worker and of its own deque; what the families fit; the families that it pushed on its own deque
-- and popped there, and for each deque those that it stole there; how often each deque was found empty, and how many
-- pushes were refused.
pub record ReachView : Type 0 where
  pub number : ℕ
  pub probes : ℕ
  pub order : ℕ
  pub pushed : List Family
  pub popped : List Family
  pub stolen : List (List Family)
  pub misses : List ℕ
  pub refused : ℕ

-- The view of the worker of this number among so many, which has done nothing. A deque takes families over so many
-- probes whose tuples have at most so many of them.
abbrev pub new_view : ℕ → ℕ → ℕ → ℕ → ReachView
new_view workers probes order number = record {
  number = number;
  probes = probes;
  order = order;
  pushed = [];
  popped = [];
  stolen = replicate workers [];
  misses = replicate workers 0;
  refused = 0;
}

-- the views of so many workers who have done nothing, in the order of their numbers
abbrev pub new_views : ℕ → ℕ → ℕ → List ReachView
new_views workers probes order = map (new_view workers probes order) (range_with_len 0 workers)

-- a family was pushed
abbrev pub after_push : ReachView → Family → ReachView
after_push v f = record v { pushed = v.pushed ++ f ∷ [] }

-- a family was popped
abbrev pub after_pop : ReachView → Family → ReachView
after_pop v f = record v { popped = v.popped ++ f ∷ [] }

-- a family was stolen from the deque i
abbrev pub after_steal : ReachView → ℕ → Family → ReachView
after_steal v i f = record v { stolen = slice_set v.stolen i (slice_index_or v.stolen i [] ++ f ∷ []) }

-- the deque i was found empty once more, and nothing else was done
abbrev pub Misses : ReachView → ℕ → ReachView → Type 0
Misses v i w = (n : ℕ) × Rises (slice_index v.misses i) n × (w ≡ record v { misses = slice_set v.misses i n })

-- a push was refused once more, and nothing else was done
abbrev pub Refuses : ReachView → ReachView → Type 0
Refuses v w = (n : ℕ) × Rises v.refused n × (w ≡ record v { refused = n })
