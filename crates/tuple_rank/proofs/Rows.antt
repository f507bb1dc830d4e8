-- Rows of Pascal's triangle.
use Rattle.std.proofs.Common.{◌≡◌, ℕ, zero, suc, ◌+◌, ◌-◌, ◌<◌, ◌≤◌, ◌^◌, List, [], ◌∷◌, ◌++◌, length, replicate, get_or, slice_index, refl, sym, ap, ◌∙◌, subst, ⊎_elim, below_more, add-one, slice_set, arith}
use Rattle.std.proofs.lemmas.Bool.{cases_lt}
use Rattle.std.proofs.lemmas.List.{get_or-replicate, get_or-set_same, get_or-set_other, length-append, get_or_append_left, get_or-append_right}
use Rattle.tuple_rank.specs.Choices.{choose}
use Rattle.tuple_rank.specs.Triangle.{IsTriangleRow, IsSmall, IsTriangle, IsCounted}
use Rattle.tuple_rank.specs.Tuples.{tuples}
use Rattle.tuple_rank.proofs.Choosing.{choose-zero, choose-none, choose-more, choose-grows, choose-within}
use Rattle.tuple_rank.proofs.Places.{length-tuples}

-- the row of no things is all zeros
pub first_row : (t len : ℕ) → t ≤ len → IsTriangleRow 0 t (replicate len 0)
first_row t len few k lt = get_or-replicate len k 0 0 (omega arith) ∙ sym (choose-none k)

pub first_small : (t len : ℕ) → t ≤ len → IsSmall t (replicate len 0)
first_small t len few k lt = let zeros : get_or (replicate len 0) k 0 ≡ 0 = get_or-replicate len k 0 0 (omega arith) in subst (λ v. v ≤ 2 ^ 62) (sym zeros) (omega arith)

-- the number before a place, or 1 before the first
pub number_before : (m t : ℕ) (row : List ℕ) → IsTriangleRow m t row → (k : ℕ) → k < t → slice_index (1 ∷ row) k ≡ choose m k
number_before m t row is zero lt = sym (choose-zero m)
number_before m t row is (suc k) lt = is k (omega arith)

pub number_after : (row : List ℕ) (k : ℕ) → slice_index row k ≡ slice_index (1 ∷ row) (k + 1)
number_after row k = ap (slice_index (1 ∷ row)) (sym (add-one k))

-- one more sum is written
pub sums_more : (row next : List ℕ) (k before : ℕ) → k < length next → before ≡ slice_index (1 ∷ row) k → ((j : ℕ) → j < k → slice_index next j ≡ slice_index (1 ∷ row) j + slice_index row j)
    → (j : ℕ) → j < k + 1 → slice_index (slice_set next k (before + slice_index row k)) j ≡ slice_index (1 ∷ row) j + slice_index row j
sums_more row next k before within is sums =
    below_more (λ j. slice_index (slice_set next k (before + slice_index row k)) j ≡ slice_index (1 ∷ row) j + slice_index row j) k
    (λ j lt. get_or-set_other next k j (before + slice_index row k) 0 (λ same. omega arith) ∙ sums j lt)
    (get_or-set_same next k (before + slice_index row k) 0 within ∙ ap (λ b. b + slice_index row k) is)

-- each number of the next row is the sum of two of this one
pub next_is_row : (t : ℕ) (row next : List ℕ) → ((k : ℕ) → k < t → slice_index next k ≡ slice_index (1 ∷ row) k + slice_index row k) → (m : ℕ) → IsTriangleRow m t row → IsTriangleRow (m + 1) t next
next_is_row t row next sums m is k lt =
    sums k lt ∙ omega (arith, number_before m t row is k lt, is k lt, choose-more m k) ∙ ap (λ i. choose i (suc k)) (sym (add-one m))

-- the rows of at most n things are small where there are few tuples
pub rows_are_small : (n t m : ℕ) (row : List ℕ) → length (tuples n t) ≤ 2 ^ 62 → m ≤ n → IsTriangleRow m t row → IsSmall t row
rows_are_small n t m row few le is k lt = omega (arith, few, length-tuples n t, is k lt, choose-grows m n (suc k) le, choose-within n (suc k) t (omega arith) (omega arith))

-- one more row
pub triangle_more : (t m : ℕ) (rows : List (List ℕ)) (row : List ℕ) → IsTriangle m t rows → IsTriangleRow (m + 1) t row → IsTriangle (m + 1) t (rows ++ row ∷ [])
triangle_more t m rows row is row_is =
    record {
      len = length-append rows (row ∷ []) ∙ omega (arith, is.len);
      rows_are = λ j le. ⊎_elim
          (λ lt. let e : get_or (rows ++ row ∷ []) j [] ≡ get_or rows j [] = get_or_append_left rows (row ∷ []) [] j (omega (arith, is.len)) in subst (IsTriangleRow j t) (sym e) (is.rows_are j (omega arith)))
          (λ past.
          let last : j ≡ m + 1 = omega arith in
          let len : length rows ≡ m + 1 = omega (arith, is.len) in
          let none_left : j - j ≡ 0 = omega arith in
          let e : get_or (rows ++ row ∷ []) j [] ≡ row = get_or-append_right rows (row ∷ []) j j [] (len ∙ sym last) (omega arith) ∙ ap (λ i. get_or (row ∷ []) i []) none_left in
          subst (IsTriangleRow j t) (sym e) (subst (λ i. IsTriangleRow i t row) (sym last) row_is))
          (cases_lt j (m + 1));
    }

-- a number of a table's rows, in the row read
pub number_at : (n t m k : ℕ) (rows : List (List ℕ)) (row : List ℕ) → IsTriangle n t rows → m ≤ n → (k ≡ 0 → ⊥) → k ≤ t → row ≡ get_or rows m row → slice_index row (k - 1) ≡ choose m k
number_at n t m k rows row is le some few read =
    let len : m < length rows = omega (arith, is.len) in
    let same : get_or rows m row ≡ get_or rows m [] = any_default rows m row [] len in
    let place : suc (k - 1) ≡ k = omega arith in
    ap (λ xs. slice_index xs (k - 1)) (read ∙ same) ∙ is.rows_are m le (k - 1) (omega arith) ∙ ap (choose m) place
  where
    any_default : (xs : List (List ℕ)) (i : ℕ) (d e : List ℕ) → i < length xs → get_or xs i d ≡ get_or xs i e
    any_default [] i d e lt = absurd (omega arith)
    any_default (x ∷ xs) zero d e lt = refl
    any_default (x ∷ xs) (suc i) d e lt = any_default xs i d e (omega arith)

-- there are more tuples than are counted where a row has a number that is too great
pub too_many : (n t m : ℕ) (row : List ℕ) → m ≤ n → IsTriangleRow m t row → (IsSmall t row → ⊥) → length (tuples n t) ≤ 2 ^ 62 → ⊥
too_many n t m row le is great few = great (rows_are_small n t m row few le is)

-- the table with the row of no things
pub first_triangle : (t : ℕ) (rows : List (List ℕ)) (row : List ℕ) → rows ≡ row ∷ [] → IsTriangleRow 0 t row → IsTriangle 0 t rows
first_triangle t rows row is row_is =
    record {
      len = ap length is ∙ omega arith;
      rows_are = λ m le. let e : get_or rows m [] ≡ row = ap (λ xs. get_or xs m []) is ∙ ap (λ i. get_or (row ∷ []) i []) (none_before m le) in subst (IsTriangleRow m t) (sym e) (subst (λ i. IsTriangleRow i t row) (sym (none_before m le)) row_is);
    }
  where
    none_before : (m : ℕ) → m ≤ 0 → m ≡ 0
    none_before m le = omega arith

-- no number of a table's rows is too great
pub number_small : (n t total m k : ℕ) (rows : List (List ℕ)) (row : List ℕ) → IsCounted n t total rows → m ≤ n → (k ≡ 0 → ⊥) → k ≤ t → row ≡ get_or rows m row → slice_index row (k - 1) ≤ 2 ^ 62
number_small n t total m k rows row is le some few read =
    let number : slice_index row (k - 1) ≡ choose m k = number_at n t m k rows row is.triangle le some few read in
    omega (arith, number, is.counted, is.small, length-tuples n t, choose-grows m n k le, choose-within n k t (omega arith) few)
