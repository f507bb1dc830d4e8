-- The hull of a family: a set of probes that is provable as a whole, grown greedily from the family's least tuple (after
-- the extension of observation sets in Barthe et al., EUROCRYPT 2015).
use Rattle.std.specs.Prelude.{ℕ, ◌≡◌, Bool, true, if◌then◌else◌, IsTrue, List, [], ◌∷◌, length, filter, slice_set}
use Rattle.std.specs.Prelude.{Option, Some, None}
use Rattle.std.specs.List.{list_all, range_with_len}
use Rattle.bit_rows.specs.Sets.{is_in, members, set_of}
use Rattle.expr_table.specs.declared.instance.Instance.{Instance}
use Rattle.expr_table.specs.Table.{has}
use Rattle.once_random.specs.Live.{AreAmong}
use Rattle.once_random.specs.Provable.{is_provable}
use Rattle.once_random.specs.Tuples.{roots_of}
use Rattle.probe_family.specs.declared.family.Family.{Family}
use Rattle.probe_family.specs.declared.part.Part.{Part}
use Rattle.probe_family.specs.Families.{is_in_part}
use Rattle.probe_family.specs.Least.{least_of}
use Rattle.family_split.specs.Children.{HasInside}

-- the roots of the tuple are provable within the bound
abbrev pub is_provable_within : Instance → ℕ → List ℕ → Bool
is_provable_within x m tuple = is_provable x (roots_of x tuple) m

-- the set's probes are provable within the bound, all together
abbrev pub is_provable_set : Instance → ℕ → List Bool → Bool
is_provable_set x m set = is_provable_within x m (members set)

-- the set of the numbers below n that the list has
abbrev pub set_with : ℕ → List ℕ → List Bool
set_with n numbers = set_of n (has numbers)

-- the numbers below n in the sets of the parts, in ascending order
abbrev pub numbers_of : ℕ → List Part → List ℕ
numbers_of n parts = filter (is_in_part parts) (range_with_len 0 n)

-- the set with p where that fits, and else the set
abbrev pub joined : (List Bool → Bool) → List Bool → ℕ → List Bool
joined fits set p = if fits (slice_set set p true) then slice_set set p true else set

-- the set that is left once each of the numbers, one after the other, has joined where it fits
abbrev pub grown : (List Bool → Bool) → List Bool → List ℕ → List Bool
grown fits set [] = set
grown fits set (p ∷ ps) = grown fits (joined fits set p) ps

-- What a criterion says depends on the tuple's numbers alone, and a tuple that meets it does so with fewer numbers. So it is with
-- what is provable within a bound, and with other criteria of composition (as PINI: Cassiers and Standaert, IEEE TIFS 2020).
abbrev pub IsMonotone : (List ℕ → Bool) → Type 0
IsMonotone meets = (some all : List ℕ) → AreAmong some all → IsTrue (meets all) → IsTrue (meets some)

-- the members of the set meet the criterion, all together
abbrev pub is_met_by : (List ℕ → Bool) → List Bool → Bool
is_met_by meets set = meets (members set)

-- The greedy hull by a criterion: the family's least tuple, which each number below n of the family's parts, in ascending order,
-- joins where the whole then meets the criterion. There is none where the least tuple does not meet it.
abbrev pub hull_by : (List ℕ → Bool) → ℕ → Family → Option (List Bool)
hull_by meets n family =
    if meets (least_of family)
    then Some (grown (is_met_by meets) (set_with n (least_of family)) (numbers_of n family.parts))
    else None

-- the hull of a family of probes, by what is provable within the family's bound
unfoldable pub hull_of : Instance → Family → Option (List Bool)
hull_of x family = hull_by (is_provable_within x family.bound) (length x.probes) family

-- The set has one flag for each number below n. The family's least tuple lies inside it, and it lies inside the family's parts;
-- so it has at least as many numbers of each part as the part takes.
pub record LiesBetween (n : ℕ) (family : Family) (hull : List Bool) : Type 0 where
  pub flags : length hull ≡ n
  pub least : IsTrue (list_all (is_in hull) (least_of family))
  pub parts : (p : ℕ) → IsTrue (is_in hull p) → IsTrue (is_in_part family.parts p)
  pub enough : HasInside hull family
