-- Closed families, as they are found by their least tuples.
use Rattle.std.specs.Prelude.{ℕ, ◌≡◌, ◌+◌, ◌≤◌, List, [], ◌∷◌, count_by, sum_by}
use Rattle.std.specs.List.{flat_map}
use Rattle.std.specs.Str.{bytes_eq}
use Rattle.probe_family.specs.declared.ending.Closed.{Closed}
use Rattle.probe_family.specs.declared.ending.Ended.{Ended}
use Rattle.probe_family.specs.declared.ending.Ending.{Ending}
use Rattle.probe_family.specs.declared.ending.Ending.TheVariants.{Proved, Failed, Beyond}
use Rattle.probe_family.specs.declared.family.Family.{Family}
use Rattle.probe_family.specs.Families.{total_take}
use Rattle.probe_family.specs.Least.{least_of}
use Rattle.frontier_core.specs.Tree.{closed_under}

-- what is closed of a family that has ended
abbrev pub closing_of : Family → Ending → List Closed
closing_of family (Proved hull) = closed_under family hull ∷ []
closing_of family (Failed rank) = []
closing_of family (Beyond best) = []

-- the families that are closed, in the order in which they ended
abbrev pub closings_of : List Ended → List Closed
closings_of records = flat_map (λ (e : Ended). closing_of e.family e.how) records

-- a family of so few probes that its least tuple is a tuple
abbrev pub IsSmall : Closed → Type 0
IsSmall record_ = total_take record_.family.parts ≤ 8

-- no two of the families have one least tuple
abbrev pub AreApart : List Closed → Type 0
AreApart records = (tuple : List ℕ) → count_by (λ (c : Closed). bytes_eq (least_of c.family) tuple) records ≤ 1

-- the record of the family was taken out
pub record TakesOut (family : Family) (old new : List Closed) (taken : Closed) : Type 0 where
  pub is : taken.family ≡ family
  pub others : (h : Closed → ℕ) → sum_by h new + h taken ≡ sum_by h old
