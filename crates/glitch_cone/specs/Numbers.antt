-- Lists of numbers in ascending order, as sets.
use Rattle.std.specs.Prelude.{ℕ, ◌+◌, ◌≤◌, ◌<◌, ◌≡◌, ◌==◌, ◌||◌, true, List, [], ◌∷◌, length, min, Option, None, Some, slice_index_or, if◌then◌else◌}
use Rattle.circuit_types.specs.declared.nets.Source.{Source}
use Rattle.circuit_types.specs.declared.nets.Source.TheVariants.{Missing}
use Rattle.circuit_types.specs.Order.{has}
use Rattle.circuit_types.specs.Stable.{has_source}

-- each number is greater than those before it, and none is below the given one
abbrev pub AscendsFrom : ℕ → List ℕ → Type 0
AscendsFrom low [] = Unit {0}
AscendsFrom low (n ∷ numbers) = (low ≤ n) × AscendsFrom (n + 1) numbers

-- the union of two sets of numbers, ascending
pub record IsUnion (xs ys union : List ℕ) : Type 0 where
  pub ascends : AscendsFrom 0 union
  pub each : (n : ℕ) → has union n ≡ (has xs n || has ys n)

-- the lesser one of the first numbers of two lists
abbrev pub least_first : List ℕ → List ℕ → Option ℕ
least_first [] [] = None
least_first [] (y ∷ ys) = Some y
least_first (x ∷ xs) [] = Some x
least_first (x ∷ xs) (y ∷ ys) = Some (min x y)

-- the list without the number, if it begins with it
abbrev pub past : ℕ → List ℕ → List ℕ
past n [] = []
past n (x ∷ xs) = if x == n then xs else x ∷ xs

-- a source by its number
abbrev pub source_at : List Source → ℕ → Source
source_at sources n = slice_index_or sources n Missing

-- The numbers of those sources of a list that are in a set, ascending.
pub record IsCone (sources behind : List Source) (numbers : List ℕ) : Type 0 where
  pub ascends : AscendsFrom 0 numbers
  pub within : (n : ℕ) → has numbers n ≡ true → n < length sources
  pub each : (n : ℕ) → n < length sources → has numbers n ≡ has_source behind (source_at sources n)
