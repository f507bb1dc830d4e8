-- The first tuple of a family.
use Rattle.std.specs.Prelude.{ℕ, nat_lt, if◌then◌else◌, List, [], ◌∷◌, take}
use Rattle.std.specs.List.{flat_map}
use Rattle.bit_rows.specs.Sets.{members}
use Rattle.probe_family.specs.declared.part.Part.{Part}
use Rattle.probe_family.specs.declared.family.Family.{Family}

-- the number put before the first that is greater
abbrev pub with_number : ℕ → List ℕ → List ℕ
with_number p [] = p ∷ []
with_number p (q ∷ qs) = if nat_lt p q then p ∷ q ∷ qs else q ∷ with_number p qs

-- the numbers in ascending order
abbrev pub in_order : List ℕ → List ℕ
in_order [] = []
in_order (p ∷ ps) = with_number p (in_order ps)

-- as many of the least numbers of the part's set as it takes
abbrev pub least_of_part : Part → List ℕ
least_of_part part = take part.take (members part.set)

-- The least numbers of each part's set, in ascending order. The law `least_is_first` says that this is the first tuple
-- of the family in lexicographic order.
unfoldable pub least_of : Family → List ℕ
least_of family = in_order (flat_map least_of_part family.parts)
