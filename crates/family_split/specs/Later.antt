-- The lists that say how many numbers lie inside, one after the other, as the code goes through them.
use Rattle.std.specs.Prelude.{ℕ, zero, suc, ◌≤◌, List, [], ◌∷◌, ◌++◌, map}
use Rattle.std.specs.List.{flat_map, AllZip}
use Rattle.probe_family.specs.declared.part.Part.{Part}
use Rattle.family_split.specs.Children.{down_from, insides}

-- all takes
abbrev pub takes_of : List Part → List ℕ
takes_of parts = map (λ (part : Part). part.take) parts

-- there is a number for each part, at most its take
abbrev pub AreInside : List Part → List ℕ → Type 0
AreInside parts numbers = AllZip (λ (part : Part) j. j ≤ part.take) parts numbers

-- the lesser numbers, in descending order
abbrev pub lesser : ℕ → List ℕ
lesser zero = []
lesser (suc n) = down_from n

-- the lists that come after one of them
abbrev pub later : List Part → List ℕ → List (List ℕ)
later (part ∷ parts) (j ∷ js) = map (λ is. j ∷ is) (later parts js) ++ flat_map (λ i. map (λ is. i ∷ is) (insides parts)) (lesser j)
later parts js = []
