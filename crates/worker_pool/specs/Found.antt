-- What a search on one thread has found, and what the end of a family adds.
use Rattle.std.specs.Prelude.{ℕ, ◌≡◌, Bool, Option, None, Some, List, [], ◌∷◌, ◌++◌}
use Rattle.probe_family.specs.declared.family.Family.{Family}
use Rattle.frontier_core.specs.declared.verdict.Verdict.{Verdict}
use Rattle.frontier_core.specs.declared.verdict.Verdict.TheVariants.{Secure, Unproved}
use Rattle.frontier_core.specs.Tree.{closed_under}
use Rattle.worker_pool.specs.declared.found.Found.{Found}
use Rattle.worker_pool.specs.declared.found.Found.TheVariants.{Closed, Failed}

-- the rank of the tuple that has failed
abbrev pub best_of : Found → Option ℕ
best_of (Closed closed) = None
best_of (Failed tuple rank) = Some rank

-- the verdict, once no family waits
abbrev pub verdict_of : Found → Verdict
verdict_of (Closed closed) = Secure closed
verdict_of (Failed tuple rank) = Unproved tuple

-- where no tuple has failed, the family is closed under the hull
abbrev pub Closes : Family → List Bool → Found → Found → Type 0
Closes family hull (Closed old) (Closed new) = new.items ≡ old.items ++ closed_under family hull ∷ []
Closes family hull (Closed old) (Failed tuple rank) = ⊥
Closes family hull (Failed tuple rank) new = new ≡ Failed tuple rank
