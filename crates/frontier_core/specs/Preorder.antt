-- A search that is over and in which no family failed.
use Rattle.std.specs.Prelude.{ℕ, ◌≡◌, ◌≤◌, List, []}
use Rattle.expr_table.specs.declared.instance.Instance.{Instance}
use Rattle.probe_family.specs.declared.ending.Ended.{Ended}
use Rattle.probe_family.specs.declared.family.Family.{Family}
use Rattle.probe_family.specs.Roots.{roots_of}
use Rattle.frontier_core.specs.Balance.{Balanced, failed_ranks}

-- nothing waits, no family failed, and these are the roots
pub record IsWhole (x : Instance) (t : ℕ) (roots : List Family) (ended : List Ended) : Type 0 where
  pub few : t ≤ 8
  pub roots_are : roots ≡ roots_of x t
  pub balanced : Balanced x t [] ended
  pub none_failed : failed_ranks ended ≡ []
