-- The proof tree of an instance and an order: the families that a search closes, each with its hull, where every tuple is
-- proved.
use Rattle.std.specs.Prelude.{ℕ, zero, suc, Bool, Option, List, [], ◌∷◌, length}
use Rattle.std.specs.List.{flat_map}
use Rattle.std.specs.Option.{option_map_or}
use Rattle.expr_table.specs.declared.instance.Instance.{Instance}
use Rattle.once_random.specs.Tuples.{first_unproved}
use Rattle.tuple_rank.specs.Tuples.{tuples}
use Rattle.probe_family.specs.declared.ending.Closed.{Closed}
use Rattle.probe_family.specs.declared.family.Family.{Family}
use Rattle.probe_family.specs.Families.{weight_of}
use Rattle.probe_family.specs.Roots.{roots_of}
use Rattle.family_split.specs.Children.{children_of}
use Rattle.extend_set.specs.Hull.{hull_by, hull_of}

-- the family closed under a hull
abbrev pub closed_under : Family → List Bool → Closed
closed_under family hull = record { family = family; hull = hull }

-- what a family gives in so many generations, where this is each family's hull, if it has one
abbrev pub under_within : (Family → Option (List Bool)) → ℕ → Family → List Closed
under_within hulls zero family = []
under_within hulls (suc k) family =
    option_map_or (λ hull. closed_under family hull ∷ flat_map (under_within hulls k) (children_of family hull)) (hulls family) []

-- What a family of tuples of numbers below n gives by a criterion, which a tuple meets or not under each bound: the family closed
-- under its hull, and then what its children give, in order; nothing where it has no hull. A child has fewer tuples than its
-- family, so there are no more generations than the family has tuples.
unfoldable pub under_by : (ℕ → List ℕ → Bool) → ℕ → Family → List Closed
under_by meets n family = under_within (λ f. hull_by (meets f.bound) n f) (weight_of n family) family

-- the tree by a criterion: the roots in order, each followed by what its children give in order
unfoldable pub tree_by : (ℕ → List ℕ → Bool) → ℕ → List Family → List Closed
tree_by meets n roots = flat_map (under_by meets n) roots

-- What a family gives by what is provable. The law `family_gives_itself_and_its_children` says that it is the family closed under
-- its hull, and then what its children give; `trees_by_any_criterion` says so of each criterion.
unfoldable pub under : Instance → Family → List Closed
under x family = under_within (hull_of x) (weight_of (length x.probes) family) family

-- the proof tree: the roots in order, each followed by what its children give in order
unfoldable pub tree_of : Instance → ℕ → List Closed
tree_of x t = flat_map (under x) (roots_of x t)

-- the first tuple of at most t probes that is not proved, by size and then lexicographically
abbrev pub first_of : Instance → ℕ → Option (List ℕ)
first_of x t = first_unproved x (tuples (length x.probes) t)
