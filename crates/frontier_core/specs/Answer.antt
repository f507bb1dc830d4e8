-- The verdict of a core whose search is over.
use Rattle.std.specs.Prelude.{ℕ, ◌≡◌, ◌≤◌, IsTrue, List, Any}
use Rattle.expr_table.specs.declared.instance.Instance.{Instance}
use Rattle.expr_table.specs.Instance.{IsFitting}
use Rattle.expr_table.specs.Table.{IsTable, has}
use Rattle.probe_family.specs.declared.ending.Ended.{Ended}
use Rattle.probe_family.specs.declared.ending.Ending.TheVariants.{Failed}
use Rattle.probe_family.specs.Least.{least_of}
use Rattle.frontier_core.specs.declared.verdict.Verdict.{Verdict}
use Rattle.frontier_core.specs.declared.verdict.Verdict.TheVariants.{Secure, Unproved}
use Rattle.frontier_core.specs.Core.{CoreState, IsCoreOf}

-- the least of the ranks
pub record IsLeast (ranks : List ℕ) (rank : ℕ) : Type 0 where
  pub among : IsTrue (has ranks rank)
  pub first : (other : ℕ) → IsTrue (has ranks other) → rank ≤ other

-- the tuple is the least one of a family that failed with this rank
abbrev pub IsFailedTuple : List Ended → ℕ → List ℕ → Type 0
IsFailedTuple ended rank tuple = Any (λ (e : Ended). (e.how ≡ Failed rank) × (least_of e.family ≡ tuple)) ended

-- the core of a search of an instance's tuples of at most t probes
pub record IsSearchOf (x : Instance) (t : ℕ) (core : CoreState) : Type 0 where
  pub table : IsTable x.table
  pub fitting : IsFitting x
  pub few : t ≤ 8
  pub core_is : IsCoreOf x t core

-- the verdicts are the same: the same tuple, or the same families and hulls in the same order
abbrev pub IsSameVerdict : Verdict → Verdict → Type 0
IsSameVerdict (Secure closed) (Secure other) = closed.items ≡ other.items
IsSameVerdict (Secure closed) (Unproved tuple) = ⊥
IsSameVerdict (Unproved tuple) (Secure closed) = ⊥
IsSameVerdict (Unproved tuple) (Unproved other) = tuple.items ≡ other.items
