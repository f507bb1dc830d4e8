-- From a tuple to its place, and from a place to its tuple, a number at a time.
use Rattle.std.proofs.Common.{◌≡◌, ℕ, zero, suc, ◌+◌, ◌-◌, ◌<◌, ◌≤◌, Some, List, [], ◌∷◌, ◌++◌, length, slice_get, get_or, drop, append_assoc, add-one, refl, sym, ap, ◌∙◌, subst, arith}
use Rattle.std.specs.List.{range_with_len}
use Rattle.std.proofs.lemmas.List.{append-nil, length-append}
use Rattle.std.proofs.Math.Seq.{drop-cons}
use Rattle.tuple_rank.specs.Choices.{choices, choose}
use Rattle.tuple_rank.proofs.Choosing.{choices-zero, choose-zero, choose-more, choose-grows}
use Rattle.tuple_rank.proofs.Places.{get-number}
use Rattle.tuple_rank.proofs.Order.{IsBetween}

-- how many ways there are to go on, from x on or behind x
choose-at : (n x k : ℕ) → x < n → choose (n - x) (suc k) ≡ choose (n - (x + 1)) k + choose (n - (x + 1)) (suc k)
choose-at n x k lt = let e : n - x ≡ suc (n - (x + 1)) = omega arith in ap (λ m. choose m (suc k)) e ∙ choose-more (n - (x + 1)) k

-- the first i numbers of the tuple are placed: the others are the choice at r among those of `left` numbers from low on
-- exactly where the tuple is at place + r
pub record IsPlaced (n : ℕ) (numbers : List ℕ) (i place low left : ℕ) : Type 0 where
  pub left_is : i + left ≡ length numbers
  pub low_in : low ≤ n
  pub within : IsBetween low n (drop i numbers)
  pub room : place + choose (n - low) left ≤ choose n (length numbers)
  pub leads : (r : ℕ) → slice_get (choices left (range_with_len low (n - low))) r ≡ Some (drop i numbers) → slice_get (choices (length numbers) (range_with_len 0 n)) (place + r) ≡ Some numbers

pub placed_none : (n : ℕ) (numbers : List ℕ) → IsBetween 0 n numbers → IsPlaced n numbers 0 0 0 (length numbers)
placed_none n numbers within =
    let all : n - 0 ≡ n = omega arith in
    record {
      left_is = omega arith;
      low_in = omega arith;
      within = within;
      room = omega (arith, ap (λ m. choose m (length numbers)) all);
      leads = λ r e. let same : 0 + r ≡ r = omega arith in ap (slice_get (choices (length numbers) (range_with_len 0 n))) same ∙ ap (λ m. slice_get (choices (length numbers) (range_with_len 0 m)) r) (sym all) ∙ e;
    }

pub placed_all : (n : ℕ) (numbers : List ℕ) (i place low left : ℕ) → IsPlaced n numbers i place low left → length numbers ≤ i → slice_get (choices (length numbers) (range_with_len 0 n)) place ≡ Some numbers
placed_all n numbers i place low left is past =
    let none : left ≡ 0 = omega (arith, is.left_is) in
    let nothing : drop i numbers ≡ [] = drop_past numbers i past in
    let same : place + 0 ≡ place = omega arith in
    let e : slice_get (choices left (range_with_len low (n - low))) 0 ≡ Some (drop i numbers) =
    ap (λ k. slice_get (choices k (range_with_len low (n - low))) 0) none ∙ ap (λ xs. slice_get xs 0) (choices-zero (range_with_len low (n - low))) ∙ ap Some (sym nothing) in
    ap (slice_get (choices (length numbers) (range_with_len 0 n))) (sym same) ∙ is.leads 0 e
  where
    drop_past : (xs : List ℕ) (i : ℕ) → length xs ≤ i → drop i xs ≡ []
    drop_past [] zero le = refl
    drop_past [] (suc i) le = refl
    drop_past (x ∷ xs) zero le = absurd (omega arith)
    drop_past (x ∷ xs) (suc i) le = drop_past xs i (omega arith)

-- one more number, x
module _ (n : ℕ) (numbers : List ℕ) (i place low left x : ℕ) (is : IsPlaced n numbers i place low left) (lt : i < length numbers) (x_is : x ≡ get_or numbers i 0) where
  here : drop i numbers ≡ x ∷ drop (i + 1) numbers
  here = drop-cons numbers i 0 lt ∙ ap (λ y. y ∷ drop (suc i) numbers) (sym x_is) ∙ ap (λ j. x ∷ drop j numbers) (sym (add-one i))

  in_here : IsBetween low n (x ∷ drop (i + 1) numbers)
  in_here = subst (IsBetween low n) here is.within

  abbrev k : ℕ
  k = left - 1

  left_more : suc k ≡ left
  left_more = omega (arith, is.left_is)

  pub some_left : 1 ≤ left
  some_left = omega (arith, is.left_is)

  pub number_in : x < n
  number_in = in_here.1

  pub no_more : choose (n - x) left ≤ choose (n - low) left
  no_more = choose-grows (n - x) (n - low) left (omega (arith, in_here.0))

  ways-split : choose (n - x) left ≡ choose (n - (x + 1)) k + choose (n - (x + 1)) left
  ways-split = subst (λ j. choose (n - x) j ≡ choose (n - (x + 1)) k + choose (n - (x + 1)) j) left_more (choose-at n x k number_in)

  leads_on : (p r : ℕ) → p + choose (n - x) left ≡ choose (n - low) left + r → slice_get (choices k (range_with_len (x + 1) (n - (x + 1)))) r ≡ Some (drop (i + 1) numbers) → slice_get (choices left (range_with_len low (n - low))) p ≡ Some (drop i numbers)
  leads_on p r sum e =
      let sum_k : p + choose (n - x) (suc k) ≡ choose (n - low) (suc k) + r = subst (λ j. p + choose (n - x) j ≡ choose (n - low) j + r) (sym left_more) sum in
      ap (λ j. slice_get (choices j (range_with_len low (n - low))) p) (sym left_more)
      ∙ get-number k n low x p r (drop (i + 1) numbers) in_here.0 number_in sum_k e
      ∙ ap Some (sym here)

  pub placed_more : IsPlaced n numbers (i + 1) (place + (choose (n - low) left - choose (n - x) left)) (x + 1) (left - 1)
  placed_more =
      record {
        left_is = omega (arith, is.left_is);
        low_in = omega (arith, number_in);
        within = in_here.2;
        room = omega (arith, is.room, ways-split, no_more);
        leads = λ r e.
            let p : ℕ = choose (n - low) left - choose (n - x) left + r in
            let same : place + (choose (n - low) left - choose (n - x) left) + r ≡ place + p = omega arith in
            ap (slice_get (choices (length numbers) (range_with_len 0 n))) same ∙ is.leads p (leads_on p r (omega (arith, no_more)) e);
      }

  pub placed_step : (a b : ℕ) → a ≡ choose (n - low) left → b ≡ choose (n - x) left → IsPlaced n numbers (i + 1) (place + (a - b)) (x + 1) (left - 1)
  placed_step a b e f = subst (λ d. IsPlaced n numbers (i + 1) (place + d) (x + 1) (left - 1)) (sym (ap (λ m. m - b) e ∙ ap (λ m. choose (n - low) left - m) f)) placed_more

-- the numbers so far are those with which the tuple at `place` begins, and the others are the choice at `rest` among those
-- of `left` numbers from low on
pub record IsFound (n size place low left rest : ℕ) (numbers : List ℕ) : Type 0 where
  pub left_is : length numbers + left ≡ size
  pub low_in : low ≤ n
  pub rest_in : rest < choose (n - low) left
  pub leads : (others : List ℕ) → slice_get (choices left (range_with_len low (n - low))) rest ≡ Some others → slice_get (choices size (range_with_len 0 n)) place ≡ Some (numbers ++ others)

pub found_none : (n size place : ℕ) (numbers : List ℕ) → numbers ≡ [] → place < choose n size → IsFound n size place 0 size place numbers
found_none n size place numbers empty within =
    let all : n - 0 ≡ n = omega arith in
    record {
      left_is = ap (λ xs. length xs + size) empty ∙ omega arith;
      low_in = omega arith;
      rest_in = omega (arith, ap (λ m. choose m size) all);
      leads = λ others e. ap (λ m. slice_get (choices size (range_with_len 0 m)) place) (sym all) ∙ e ∙ ap (λ xs. Some (xs ++ others)) (sym empty);
    }

pub found_all : (n size place low left rest : ℕ) (numbers : List ℕ) → IsFound n size place low left rest numbers → left ≡ 0 → slice_get (choices size (range_with_len 0 n)) place ≡ Some numbers
found_all n size place low left rest numbers is none =
    let first : rest ≡ 0 = omega (arith, is.rest_in, ap (choose (n - low)) none, choose-zero (n - low)) in
    let e : slice_get (choices left (range_with_len low (n - low))) rest ≡ Some [] =
    ap (slice_get (choices left (range_with_len low (n - low)))) first
    ∙ ap (λ k. slice_get (choices k (range_with_len low (n - low))) 0) none
    ∙ ap (λ xs. slice_get xs 0) (choices-zero (range_with_len low (n - low))) in
    is.leads [] e ∙ ap Some (append-nil numbers)

-- one more number, x
module _ (n size place low left rest : ℕ) (numbers : List ℕ) (is : IsFound n size place low left rest numbers) (x : ℕ) (some : 1 ≤ left) (from : low ≤ x) (within : x < n)
    (at_least : choose (n - low) left - rest ≤ choose (n - x) left) (less : choose (n - (x + 1)) left < choose (n - low) left - rest) where
  abbrev fewer : ℕ
  fewer = left - 1

  one_fewer : suc fewer ≡ left
  one_fewer = omega arith

  pub ways_fall : choose (n - x) left ≤ choose (n - low) left
  ways_fall = choose-grows (n - x) (n - low) left (omega arith)

  pub passed_in : choose (n - low) left - choose (n - x) left ≤ rest
  passed_in = omega (arith, ways_fall, is.rest_in)

  ways_split : choose (n - x) left ≡ choose (n - (x + 1)) fewer + choose (n - (x + 1)) left
  ways_split = subst (λ j. choose (n - x) j ≡ choose (n - (x + 1)) fewer + choose (n - (x + 1)) j) one_fewer (choose-at n x fewer within)

  goes_on : (others : List ℕ) → slice_get (choices fewer (range_with_len (x + 1) (n - (x + 1)))) (rest - (choose (n - low) left - choose (n - x) left)) ≡ Some others → slice_get (choices left (range_with_len low (n - low))) rest ≡ Some (x ∷ others)
  goes_on others e =
      let r : ℕ = rest - (choose (n - low) left - choose (n - x) left) in
      let sum : rest + choose (n - x) left ≡ choose (n - low) left + r = omega (arith, ways_fall, passed_in) in
      let sum_k : rest + choose (n - x) (suc fewer) ≡ choose (n - low) (suc fewer) + r = subst (λ j. rest + choose (n - x) j ≡ choose (n - low) j + r) (sym one_fewer) sum in
      ap (λ j. slice_get (choices j (range_with_len low (n - low))) rest) (sym one_fewer) ∙ get-number fewer n low x rest r others from within sum_k e

  pub found_more : (more : List ℕ) → more ≡ numbers ++ x ∷ [] → IsFound n size place (x + 1) (left - 1) (rest - (choose (n - low) left - choose (n - x) left)) more
  found_more more is_more =
      record {
        left_is = ap (λ xs. length xs + (left - 1)) is_more ∙ omega (arith, length-append numbers (x ∷ []), is.left_is);
        low_in = omega arith;
        rest_in = omega (arith, ways_split, passed_in, ways_fall);
        leads = λ others e. is.leads (x ∷ others) (goes_on others e) ∙ ap Some (sym (append_assoc numbers (x ∷ []) others) ∙ ap (λ xs. xs ++ others) (sym is_more));
      }

  pub found_step : (a b : ℕ) (more : List ℕ) → a ≡ choose (n - low) left → b ≡ choose (n - x) left → more ≡ numbers ++ x ∷ [] → IsFound n size place (x + 1) (left - 1) (rest - (a - b)) more
  found_step a b more e f is_more = subst (λ d. IsFound n size place (x + 1) (left - 1) (rest - d) more) (sym (ap (λ m. m - b) e ∙ ap (λ m. choose (n - low) left - m) f)) (found_more more is_more)
