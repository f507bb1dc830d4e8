-- The children of a family: families of those of its tuples that do not lie wholly inside a hull, by how many numbers
-- of each part lie inside.
use Rattle.std.specs.Prelude.{ℕ, zero, suc, ◌≤◌, ◌-◌, ◌==◌, Bool, true, false, not, ◌&&◌, List, [], ◌∷◌, ◌++◌, map, filter, length, All}
use Rattle.std.specs.List.{flat_map}
use Rattle.bit_rows.specs.Sets.{members, meet, minus}
use Rattle.probe_family.specs.declared.part.Part.{Part}
use Rattle.probe_family.specs.declared.family.Family.{Family}
use Rattle.probe_family.specs.Families.{part_of, family_over}

-- a number and all lesser ones, in descending order
abbrev pub down_from : ℕ → List ℕ
down_from zero = 0 ∷ []
down_from (suc n) = suc n ∷ down_from n

-- The lists with one number for each part, each at most the part's take, in descending lexicographic order. The
-- numbers say how many of each part lie inside the hull.
abbrev pub insides : List Part → List (List ℕ)
insides [] = [] ∷ []
insides (part ∷ parts) = flat_map (λ j. map (λ js. j ∷ js) (insides parts)) (down_from part.take)

-- the list is that of all takes: every number lies inside
abbrev pub are_all_inside : List Part → List ℕ → Bool
are_all_inside [] [] = true
are_all_inside (part ∷ parts) (j ∷ js) = j == part.take && are_all_inside parts js
are_all_inside parts js = false

-- j numbers of the part inside the hull, and the rest of its take outside
abbrev pub halves : List Bool → Part → ℕ → List Part
halves hull part j = part_of j (meet part.set hull) ∷ part_of (part.take - j) (minus part.set hull) ∷ []

-- the parts of a child: for each part of the family its numbers inside before those outside
abbrev pub split_parts : List Bool → List Part → List ℕ → List Part
split_parts hull (part ∷ parts) (j ∷ js) = halves hull part j ++ split_parts hull parts js
split_parts hull parts js = []

-- the child for a list of numbers, unless a set has too few
abbrev pub child_of : Family → List Bool → List ℕ → List Family
child_of family hull js = family_over family.size family.bound (split_parts hull family.parts js)

-- the children of the family under the hull, for each list but that of all takes
unfoldable pub children_of : Family → List Bool → List Family
children_of family hull = flat_map (child_of family hull) (filter (λ js. not (are_all_inside family.parts js)) (insides family.parts))

-- the hull has at least as many numbers of each part as the part takes
abbrev pub HasInside : List Bool → Family → Type 0
HasInside hull family = All (λ (part : Part). part.take ≤ length (members (meet part.set hull))) family.parts
