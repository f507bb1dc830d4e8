-- How a set grows by runs of numbers: what the private functions say of each other.
use Rattle.std.specs.Prelude.{ℕ, ◌≡◌, ◌<◌, ◌≤◌, Bool, not, ◌&&◌, ◌||◌, nat_lt, nat_le, IsTrue, Option, List, length, find, All}
use Rattle.bit_rows.specs.Sets.{is_in, is_subset, members, set_of}
use Rattle.expr_table.specs.Table.{has}
use Rattle.probe_family.specs.declared.part.Part.{Part}
use Rattle.probe_family.specs.Families.{is_in_part}
use Rattle.extend_set.specs.declared.growth.Growth.{Growth}
use Rattle.extend_set.specs.Hull.{grown, numbers_of, set_with}

-- each subset of a set that fits, fits too
abbrev pub IsKeptBySubsets : (List Bool → Bool) → Type 0
IsKeptBySubsets fits = (some all : List Bool) → IsTrue (is_subset some all) → IsTrue (fits all) → IsTrue (fits some)

-- the least number of the set that is at least start, if there is one
abbrev pub member_from : List Bool → ℕ → Option ℕ
member_from set start = find (λ i. nat_le start i) (members set)

-- the number is at least start and below end
abbrev pub is_between : ℕ → ℕ → ℕ → Bool
is_between start end p = nat_le start p && nat_lt p end

-- the set, and the numbers from start on and below end that pass
abbrev pub with_run : List Bool → (ℕ → Bool) → ℕ → ℕ → List Bool
with_run set test start end = set_of (length set) (λ p. is_in set p || (test p && is_between start end p))

-- the set, and the numbers of the parts from start on and below end
abbrev pub with_parts : List Bool → List Part → ℕ → ℕ → List Bool
with_parts set parts start end = with_run set (is_in_part parts) start end

-- the set without the numbers from start on and below end
abbrev pub without_run : List Bool → ℕ → ℕ → List Bool
without_run set start end = set_of (length set) (λ p. is_in set p && not (is_between start end p))

-- the set, and the numbers of the list
abbrev pub with_numbers : List Bool → List ℕ → List Bool
with_numbers set numbers = set_of (length set) (λ p. is_in set p || has numbers p)

-- the sets have the same numbers from start on
abbrev pub AreSameFrom : ℕ → List Bool → List Bool → Type 0
AreSameFrom start old new = (p : ℕ) → start ≤ p → is_in new p ≡ is_in old p

-- The set has grown to a number: it began as the tuple, which fits, and each number of the parts that is below has
-- joined where the set then fits. The sets are those of numbers below n.
pub record IsGrownTo (fits : List Bool → Bool) (n : ℕ) (parts : List Part) (tuple : List ℕ) (end : ℕ) (set : List Bool) : Type 0 where
  pub kept : IsKeptBySubsets fits
  pub begins : IsTrue (fits (set_with n tuple))
  pub below : All (λ p. p < n) tuple
  pub stands : set ≡ grown fits (set_with n tuple) (numbers_of end parts)

-- so it has, by this criterion, with these parts and this tuple
abbrev pub IsGrown : {C : Type 0} → (C → List Bool → Bool) → Growth C → ℕ → ℕ → List Bool → Type 0
IsGrown meets growth n end set = IsGrownTo (meets growth.criterion.now) n growth.parts.now growth.tuple.now end set
