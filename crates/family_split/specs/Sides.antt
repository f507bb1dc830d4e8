-- The sides of parts under a hull, as they are made once for all children.
use Rattle.std.specs.Prelude.{ℕ, ◌≤◌, ◌-◌, Bool, List, [], ◌∷◌}
use Rattle.std.specs.List.{AllZip}
use Rattle.bit_rows.specs.Sets.{meet, minus}
use Rattle.probe_family.specs.declared.part.Part.{Part}
use Rattle.probe_family.specs.Families.{part_of}
use Rattle.family_split.specs.declared.sides.Sides.{Sides}

-- the part's numbers inside the hull and those outside
abbrev pub sides_of : List Bool → Part → Sides
sides_of hull part = record { take = part.take; inside = meet part.set hull; outside = minus part.set hull }

-- there is a number for each of the sides, at most the take
abbrev pub FitSides : List Sides → List ℕ → Type 0
FitSides sides numbers = AllZip (λ (side : Sides) j. j ≤ side.take) sides numbers

-- so many numbers inside, and the rest of each take outside
abbrev pub split_sides : List Sides → List ℕ → List Part
split_sides (side ∷ sides) (j ∷ js) = part_of j side.inside ∷ part_of (side.take - j) side.outside ∷ split_sides sides js
split_sides sides js = []
