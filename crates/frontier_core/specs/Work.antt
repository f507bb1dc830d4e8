-- How the work on a family comes out.
use Rattle.std.specs.Prelude.{ℕ, ◌≡◌, ◌≤◌, IsFalse, Option, None, Some}
use Rattle.expr_table.specs.declared.instance.Instance.{Instance}
use Rattle.probe_family.specs.declared.family.Family.{Family}
use Rattle.probe_family.specs.Least.{least_of}
use Rattle.family_split.specs.Children.{children_of}
use Rattle.extend_set.specs.Hull.{hull_of}
use Rattle.frontier_core.specs.declared.one_family.Outcome.{Outcome}
use Rattle.frontier_core.specs.declared.one_family.Outcome.TheVariants.{Proved, Failed, Beyond}
use Rattle.frontier_core.specs.Search.{is_beyond, least_rank}

-- The family is beyond the best rank exactly where there is one and it is at most the rank of the least tuple; else it
-- failed exactly where it has no hull, with its least tuple; else it is proved, with its hull and its children.
abbrev pub IsOutcome : Instance → ℕ → Family → Option ℕ → Outcome → Type 0
IsOutcome x t family best (Beyond rank) = (best ≡ Some rank) × (rank ≤ least_rank x t family)
IsOutcome x t family best (Failed tuple rank) =
    IsFalse (is_beyond best (least_rank x t family)) × (hull_of x family ≡ None)
    × (tuple.items ≡ least_of family) × (rank ≡ least_rank x t family)
IsOutcome x t family best (Proved hull children) =
    IsFalse (is_beyond best (least_rank x t family)) × (hull_of x family ≡ Some hull)
    × (children.items ≡ children_of family hull)
