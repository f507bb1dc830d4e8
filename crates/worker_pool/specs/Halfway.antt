-- How far a search on one thread has come. The families that wait are listed in the order in which they are searched.
use Rattle.std.specs.Prelude.{ℕ, ◌≡◌, ◌||◌, IsTrue, IsFalse, List, ◌++◌, length, reverse, All}
use Rattle.std.specs.List.{flat_map, list_any}
use Rattle.expr_table.specs.declared.instance.Instance.{Instance}
use Rattle.once_random.specs.Tuples.{is_proved}
use Rattle.tuple_rank.specs.Tuples.{IsTuple, rank_of}
use Rattle.probe_family.specs.declared.family.Family.{Family}
use Rattle.probe_family.specs.Families.{is_tuple_of}
use Rattle.frontier_core.specs.declared.one_family.Outcome.{Outcome}
use Rattle.frontier_core.specs.declared.one_family.Outcome.TheVariants as outcome
use Rattle.frontier_core.specs.Search.{IsSearched, is_beyond}
use Rattle.frontier_core.specs.Tree.{tree_of, under}
use Rattle.worker_pool.specs.declared.found.Found.{Found}
use Rattle.worker_pool.specs.declared.found.Found.TheVariants.{Closed, Failed}
use Rattle.worker_pool.specs.declared.search.Search.{Search}
use Rattle.worker_pool.specs.Found.{Closes, best_of}

-- The closed families, and then what those that wait give, are the proof tree; or a tuple, whose rank is kept with it, is
-- not proved.
abbrev pub HasFound : Instance → ℕ → List Family → Found → Type 0
HasFound x t waiting (Closed closed) = closed.items ++ flat_map (under x) waiting ≡ tree_of x t
HasFound x t waiting (Failed tuple rank) =
    IsTuple (length x.probes) t tuple.items × IsFalse (is_proved x tuple.items) × (rank ≡ rank_of (length x.probes) t tuple.items)

-- So far the search has come: the families that wait are such as a search has, what is found is right, and no tuple is lost.
pub record IsHalfway (x : Instance) (t : ℕ) (waiting : List Family) (found : Found) : Type 0 where
  pub searched : All (IsSearched x t) waiting
  pub has_found : HasFound x t waiting found
  -- a tuple that is not proved is in a family that waits, or comes no earlier than one that is known
  pub others : (tuple : List ℕ) → IsTuple (length x.probes) t tuple → IsFalse (is_proved x tuple)
      → IsTrue (list_any (λ f. is_tuple_of f tuple) waiting || is_beyond (best_of found) (rank_of (length x.probes) t tuple))

-- the families that wait, from the top of the stack down
abbrev pub waiting_of : Search → List Family
waiting_of search = reverse search.stack.items

-- what the outcome of a family makes of a search
abbrev pub Ends : Family → Outcome → Search → Search → Type 0
Ends family (outcome.Proved hull children) old new =
    (waiting_of new ≡ children.items ++ waiting_of old) × Closes family hull old.found new.found
Ends family (outcome.Failed tuple rank) old new = (waiting_of new ≡ waiting_of old) × (new.found ≡ Failed tuple rank)
Ends family (outcome.Beyond best) old new = new ≡ old
