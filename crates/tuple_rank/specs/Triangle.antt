-- Pascal's triangle as the table of a count of tuples.
use Rattle.std.specs.Prelude.{ℕ, suc, ◌+◌, ◌^◌, ◌≡◌, ◌<◌, ◌≤◌, List, [], length, slice_index, slice_index_or}
use Rattle.tuple_rank.specs.Choices.{choose}
use Rattle.tuple_rank.specs.Tuples.{tuples}

-- the row has, at each place k below t, in how many ways k + 1 of m things are chosen
abbrev pub IsTriangleRow : ℕ → ℕ → List ℕ → Type 0
IsTriangleRow m t row = (k : ℕ) → k < t → slice_index row k ≡ choose m (suc k)

-- no number of the row's first t is greater than 2^62
abbrev pub IsSmall : ℕ → List ℕ → Type 0
IsSmall t row = (k : ℕ) → k < t → slice_index row k ≤ 2 ^ 62

-- the rows are those of 0 to n things
pub record IsTriangle (n t : ℕ) (rows : List (List ℕ)) : Type 0 where
  pub len : length rows ≡ n + 1
  pub rows_are : (m : ℕ) → m ≤ n → IsTriangleRow m t (slice_index_or rows m [])

-- the parts of a table that counts the tuples of (n, t)
pub record IsCounted (n t total : ℕ) (rows : List (List ℕ)) : Type 0 where
  pub n_in : n ≤ 65535
  pub some : 1 ≤ t
  pub few : t ≤ 8
  pub counted : total ≡ length (tuples n t)
  pub small : total ≤ 2 ^ 62
  pub triangle : IsTriangle n t rows
