-- The ways to choose some of the elements of a list, and their number.
use Rattle.std.specs.Prelude.{ℕ, zero, suc, ◌+◌, ◌≡◌, List, [], ◌∷◌, ◌++◌, map, length}

-- the ways to choose k of the elements of a list, in its order: those with its first element, and then those without it
unfoldable pub choices : ℕ → List ℕ → List (List ℕ)
choices zero xs = [] ∷ []
choices (suc k) [] = []
choices (suc k) (x ∷ xs) = map (λ ys. x ∷ ys) (choices k xs) ++ choices (suc k) xs

-- the binomial number, by Pascal's rule
unfoldable pub choose : ℕ → ℕ → ℕ
choose n zero = 1
choose zero (suc k) = 0
choose (suc n) (suc k) = choose n k + choose n (suc k)

-- in how many ways 1 to t of n things are chosen
abbrev pub choose_to : ℕ → ℕ → ℕ
choose_to n zero = 0
choose_to n (suc t) = choose_to n t + choose n (suc t)

-- the binomial number is the number of ways to choose
abbrev pub ChoicesAreCounted : Type 0
ChoicesAreCounted = (k : ℕ) (xs : List ℕ) → length (choices k xs) ≡ choose (length xs) k
