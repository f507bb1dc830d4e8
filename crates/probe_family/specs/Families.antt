-- Families: sets of tuples that take so many numbers from each of some disjoint sets and no other number.
-- A tuple is a list of numbers in ascending order.
use Rattle.std.specs.Prelude.{ℕ, ◌≡◌, ◌≤◌, ◌==◌, nat_lt, nat_le, Bool, true, ◌&&◌, if◌then◌else◌, IsTrue, List, [], ◌∷◌, length, filter, count_by, sum_by, All, AllPairs}
use Rattle.std.specs.List.{list_all, list_any, range_with_len}
use Rattle.bit_rows.specs.Sets.{is_in, members}
use Rattle.tuple_rank.specs.Choices.{choices}
use Rattle.probe_family.specs.declared.part.Part.{Part}
use Rattle.probe_family.specs.declared.family.Family.{Family}

-- each number is below all that follow it
abbrev pub is_ascending : List ℕ → Bool
is_ascending [] = true
is_ascending (p ∷ ps) = list_all (nat_lt p) ps && is_ascending ps

-- how many of the numbers are in the set
abbrev pub count_in : List Bool → List ℕ → ℕ
count_in set numbers = count_by (is_in set) numbers

-- as many of the numbers are in the part's set as it takes
abbrev pub is_taken_from : Part → List ℕ → Bool
is_taken_from part numbers = count_in part.set numbers == part.take

-- the number is in the set of some part
abbrev pub is_in_part : List Part → ℕ → Bool
is_in_part parts p = list_any (λ (part : Part). is_in part.set p) parts

-- from each part come as many of the numbers as it takes, and none comes from elsewhere
abbrev pub are_taken : List Part → List ℕ → Bool
are_taken parts numbers = list_all (λ part. is_taken_from part numbers) parts && list_all (is_in_part parts) numbers

-- the numbers are a tuple that takes from each part as many as it takes, and no other
unfoldable pub is_tuple_over : List Part → List ℕ → Bool
is_tuple_over parts numbers = is_ascending numbers && are_taken parts numbers

-- the numbers are a tuple of the family
abbrev pub is_tuple_of : Family → List ℕ → Bool
is_tuple_of family numbers = is_tuple_over family.parts numbers

-- how many tuples of numbers below n the family has
unfoldable pub weight_of : ℕ → Family → ℕ
weight_of n family = count_by (is_tuple_of family) (choices family.size (range_with_len 0 n))

-- how many numbers all the parts take
abbrev pub total_take : List Part → ℕ
total_take parts = sum_by (λ (part : Part). part.take) parts

-- a part takes at least one of the numbers of its set, and no more than there are
pub record IsPart (n : ℕ) (part : Part) : Type 0 where
  pub below : length part.set ≡ n
  pub some : 1 ≤ part.take
  pub enough : part.take ≤ length (members part.set)

-- no number is in the sets of both parts
abbrev pub AreDisjoint : Part → Part → Type 0
AreDisjoint a b = (p : ℕ) → IsTrue (is_in a.set p) → IsTrue (is_in b.set p) → ⊥

-- what holds of a family of tuples of numbers below n
pub record IsFamily (n : ℕ) (family : Family) : Type 0 where
  pub some : 1 ≤ length family.parts
  pub few : length family.parts ≤ 8
  pub parts : All (IsPart n) family.parts
  pub disjoint : AllPairs AreDisjoint family.parts
  pub size : total_take family.parts ≡ family.size
  pub small : family.size ≤ 8

-- so many numbers of a set
abbrev pub part_of : ℕ → List Bool → Part
part_of take set = record { take = take; set = set }

-- the part takes something
abbrev pub takes_some : Part → Bool
takes_some part = nat_lt 0 part.take

-- the part's set has as many numbers as it takes
abbrev pub has_enough : Part → Bool
has_enough part = nat_le part.take (length (members part.set))

-- The family of these parts, without those that take nothing; there is none where a set has fewer numbers than are
-- taken from it.
abbrev pub family_over : ℕ → ℕ → List Part → List Family
family_over size bound parts =
    if list_all has_enough parts then record { size = size; bound = bound; parts = filter takes_some parts } ∷ [] else []
