-- Sets of numbers below a length, as one flag for each number.
use Rattle.std.specs.Prelude.{ℕ, zero, suc, ◌≡◌, ◌<◌, Bool, false, not, ◌&&◌, ◌||◌, nat_lt, if◌then◌else◌, Option, List, [], ◌∷◌, ◌++◌, length, map, find, slice_get, slice_index_or}
use Rattle.std.specs.List.{list_all, range_with_len}

-- the number is in the set
abbrev pub is_in : List Bool → ℕ → Bool
is_in flags i = slice_index_or flags i false

-- the numbers of the set that are below n, in ascending order
abbrev pub members_below : List Bool → ℕ → List ℕ
members_below flags zero = []
members_below flags (suc n) = members_below flags n ++ (if is_in flags n then n ∷ [] else [])

-- the numbers of the set, in ascending order
abbrev pub members : List Bool → List ℕ
members flags = members_below flags (length flags)

-- the flags are those of the numbers that pass
abbrev pub Marks : List Bool → (ℕ → Bool) → Type 0
Marks flags test = (i : ℕ) → i < length flags → is_in flags i ≡ test i

-- the set of the numbers below n that pass
unfoldable pub set_of : ℕ → (ℕ → Bool) → List Bool
set_of n test = map test (range_with_len 0 n)

-- the numbers of either set
abbrev pub union : List Bool → List Bool → List Bool
union xs ys = set_of (length xs) (λ i. is_in xs i || is_in ys i)

-- the numbers of the first set that are not in the second
abbrev pub minus : List Bool → List Bool → List Bool
minus xs ys = set_of (length xs) (λ i. is_in xs i && not (is_in ys i))

-- the numbers of both sets
abbrev pub meet : List Bool → List Bool → List Bool
meet xs ys = set_of (length xs) (λ i. is_in xs i && is_in ys i)

-- each number of the first set is in the second
abbrev pub is_subset : List Bool → List Bool → Bool
is_subset xs ys = list_all (is_in ys) (members xs)

-- the least number of the set, if there is one
abbrev pub first_member : List Bool → Option ℕ
first_member flags = slice_get (members flags) 0

-- the least number of the set that is greater than a number, if there is one
abbrev pub next_member : List Bool → ℕ → Option ℕ
next_member flags after = find (λ i. nat_lt after i) (members flags)
