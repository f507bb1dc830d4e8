-- Tuples: sets of few of the numbers below a number, as ascending lists, by size and then lexicographically.
use Rattle.std.specs.Prelude.{ℕ, ◌≡◌, ◌<◌, ◌≤◌, ◌↔◌, min, Bool, false, ◌&&◌, ◌||◌, nat_lt, nat_eq, IsTrue, Some, List, [], ◌∷◌, length, slice_get}
use Rattle.std.specs.List.{All, AllPairs, Contains, flat_map, position_or_len, range_with_len}
use Rattle.std.specs.List.Sorted.{IsStrictlyIncreasing}
use Rattle.std.specs.Str.{bytes_eq}
use Rattle.tuple_rank.specs.Choices.{choices}

-- tuples of at most t of the numbers below n
pub record TupleSpace : Type 0 where
  pub n : ℕ
  pub t : ℕ

-- the tuples of size 1 to min(t, n) of the numbers below n, by size and then lexicographically
unfoldable pub tuples : ℕ → ℕ → List (List ℕ)
tuples n t = flat_map (λ k. choices k (range_with_len 0 n)) (range_with_len 1 (min t n))

-- the list is a tuple of (n, t)
pub record IsTuple (n t : ℕ) (xs : List ℕ) : Type 0 where
  pub ascending : IsStrictlyIncreasing xs
  pub below : All (λ x. x < n) xs
  pub some : 1 ≤ length xs
  pub few : length xs ≤ min t n

-- at the first place where the lists differ, the first has the lesser number
abbrev pub is_lexically_before : List ℕ → List ℕ → Bool
is_lexically_before [] ys = false
is_lexically_before (x ∷ xs) [] = false
is_lexically_before (x ∷ xs) (y ∷ ys) = nat_lt x y || (nat_eq x y && is_lexically_before xs ys)

-- the first list is shorter, or as long as the second and lexicographically before it
abbrev pub is_before : List ℕ → List ℕ → Bool
is_before xs ys = nat_lt (length xs) (length ys) || (nat_eq (length xs) (length ys) && is_lexically_before xs ys)

-- the rank of a tuple: its place among the tuples, counted from 0
unfoldable pub rank_of : ℕ → ℕ → List ℕ → ℕ
rank_of n t xs = position_or_len (λ ys. bytes_eq ys xs) (tuples n t)

-- the tuples are the lists that are tuples
abbrev pub TuplesAreAll : Type 0
TuplesAreAll = (n t : ℕ) (xs : List ℕ) → IsTuple n t xs ↔ Contains (tuples n t) xs

-- each tuple is before those that come later, so none comes twice
abbrev pub TuplesAscend : Type 0
TuplesAscend = (n t : ℕ) → AllPairs (λ xs ys. IsTrue (is_before xs ys)) (tuples n t)

-- the tuple with the rank of a tuple is that tuple, and the rank of the tuple at a place is that place
abbrev pub RankIsPlace : Type 0
RankIsPlace = (n t : ℕ) (xs : List ℕ) (rank : ℕ) → IsTuple n t xs → (slice_get (tuples n t) rank ≡ Some xs) ↔ (rank_of n t xs ≡ rank)

-- a tuple is before another exactly where its rank is less
abbrev pub RankKeepsOrder : Type 0
RankKeepsOrder = (n t : ℕ) (xs ys : List ℕ) → IsTuple n t xs → IsTuple n t ys → IsTrue (is_before xs ys) ↔ (rank_of n t xs < rank_of n t ys)
