-- How many assignments of random bits give an observation. An assignment and an observation are lists of bits.
use Rattle.std.specs.Prelude.{ℕ, zero, suc, Bool, true, false, List, [], ◌∷◌, ◌++◌, map, count_by}

-- the assignments of n random bits: all lists of n bits, each once
abbrev pub assignments : ℕ → List (List Bool)
assignments zero = [] ∷ []
assignments (suc n) = map (λ w. false ∷ w) (assignments n) ++ map (λ w. true ∷ w) (assignments n)

-- the lists have the same bits, and as many
abbrev pub are_same_bits : List Bool → List Bool → Bool
are_same_bits [] [] = true
are_same_bits (false ∷ bs) (false ∷ cs) = are_same_bits bs cs
are_same_bits (true ∷ bs) (true ∷ cs) = are_same_bits bs cs
are_same_bits bs cs = false

-- How many assignments of n random bits give the observation o, where an assignment w gives `observe w`. Divided by 2^n
-- it is the probability of o, where the n bits are uniform and independent.
unfoldable pub count : ℕ → (List Bool → List Bool) → List Bool → ℕ
count n observe o = count_by (λ w. are_same_bits (observe w) o) (assignments n)
