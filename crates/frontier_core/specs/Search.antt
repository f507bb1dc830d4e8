-- The families that a search has before it.
use Rattle.std.specs.Prelude.{ℕ, ◌≡◌, ◌≤◌, Bool, false, nat_le, IsTrue, Option, List, length}
use Rattle.std.specs.Option.{option_map_or}
use Rattle.expr_table.specs.declared.instance.Instance.{Instance}
use Rattle.once_random.specs.Tuples.{bound_of}
use Rattle.tuple_rank.specs.Tuples.{rank_of}
use Rattle.probe_family.specs.declared.family.Family.{Family}
use Rattle.probe_family.specs.Families.{IsFamily, is_tuple_of}
use Rattle.probe_family.specs.Least.{least_of}

-- a family of tuples of at most t probes, each of which has the family's bound
pub record IsSearched (x : Instance) (t : ℕ) (family : Family) : Type 0 where
  pub rules : IsFamily (length x.probes) family
  pub small : family.size ≤ t
  pub bound : (tuple : List ℕ) → IsTrue (is_tuple_of family tuple) → family.bound ≡ bound_of x tuple

-- the rank of the family's least tuple
abbrev pub least_rank : Instance → ℕ → Family → ℕ
least_rank x t family = rank_of (length x.probes) t (least_of family)

-- a tuple of lesser or equal rank is known not to be provable
abbrev pub is_beyond : Option ℕ → ℕ → Bool
is_beyond best rank = option_map_or (λ least. nat_le least rank) best false
