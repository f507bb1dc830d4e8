-- When the families that wait and those that are ended make up a search.
use Rattle.std.specs.Prelude.{ℕ, ◌≡◌, ◌≤◌, IsTrue, IsFalse, Some, List, [], ◌∷◌, ◌++◌, All, length}
use Rattle.std.specs.List.{flat_map}
use Rattle.expr_table.specs.declared.instance.Instance.{Instance}
use Rattle.expr_table.specs.Table.{has}
use Rattle.probe_family.specs.declared.ending.Ended.{Ended}
use Rattle.probe_family.specs.declared.ending.Ending.{Ending}
use Rattle.probe_family.specs.declared.ending.Ending.TheVariants.{Proved, Failed, Beyond}
use Rattle.probe_family.specs.declared.family.Family.{Family}
use Rattle.probe_family.specs.Often.{AsOften, families_of}
use Rattle.probe_family.specs.Families.{IsFamily}
use Rattle.probe_family.specs.Least.{least_of}
use Rattle.probe_family.specs.Roots.{roots_of}
use Rattle.family_split.specs.Children.{children_of}
use Rattle.extend_set.specs.Hull.{hull_of, is_provable_within}
use Rattle.frontier_core.specs.Search.{least_rank}

-- the families that a family gives as it ends: the children under its hull, where it is proved
abbrev pub given_by : Family → Ending → List Family
given_by family (Proved hull) = children_of family hull
given_by family (Failed rank) = []
given_by family (Beyond best) = []

-- the families that were given
abbrev pub given_of : List Ended → List Family
given_of records = flat_map (λ (e : Ended). given_by e.family e.how) records

-- the rank of a family that failed
abbrev pub failed_rank : Ending → List ℕ
failed_rank (Proved hull) = []
failed_rank (Failed rank) = rank ∷ []
failed_rank (Beyond best) = []

-- the ranks of the families that failed
abbrev pub failed_ranks : List Ended → List ℕ
failed_ranks records = flat_map (λ (e : Ended). failed_rank e.how) records

-- The family's ending is right: a hull is the family's hull; a failed rank is the rank of its least tuple, which is not
-- provable within its bound; a best rank is one of those that failed, and at most the rank of the least tuple.
abbrev pub EndsRight : Instance → ℕ → List ℕ → Family → Ending → Type 0
EndsRight x t failed family (Proved hull) = hull_of x family ≡ Some hull
EndsRight x t failed family (Failed rank) =
    IsFalse (is_provable_within x family.bound (least_of family)) × (rank ≡ least_rank x t family)
EndsRight x t failed family (Beyond best) = IsTrue (has failed best) × (best ≤ least_rank x t family)

-- The families that are ended and those that wait are, as often, the roots and what was given; each ended right. They
-- are families of sets of probes, so each child has fewer tuples than its parent, and none is its own ancestor.
pub record Balanced (x : Instance) (t : ℕ) (waiting : List Family) (ended : List Ended) : Type 0 where
  pub families : All (IsFamily (length x.probes)) (families_of ended ++ waiting)
  pub as_often : AsOften (families_of ended ++ waiting) (roots_of x t ++ given_of ended)
  pub right : All (λ (e : Ended). EndsRight x t (failed_ranks ended) e.family e.how) ended
