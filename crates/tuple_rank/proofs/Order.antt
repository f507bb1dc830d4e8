-- The order of tuples, and their ranks.
use Rattle.std.proofs.Common.{◌≡◌, ℕ, zero, suc, ◌+◌, ◌-◌, ◌<◌, ◌≤◌, min, true, false, ◌&&◌, nat_lt, nat_eq, IsTrue, Some, List, [], ◌∷◌, ◌++◌, length, map, get_or, slice_get, slice_index, refl, sym, ap, ◌∙◌, subst, ◌⊎◌, inl, inr, ⊎_elim, arith}
use Rattle.std.specs.List.{All, AllPairs, Contains, range_with_len}
use Rattle.std.specs.List.Sorted.{IsStrictlyIncreasing}
use Rattle.std.specs.Str.{bytes_eq}
use Rattle.std.proofs.lemmas.Bool.{cases_lt, cases_order, ltb-true, lt-ltb, eq-eqb, eqb-true, or_cases, or_left, or_right, and_parts, and_from, false_from_ne_true, both_ways}
use Rattle.std.proofs.lemmas.List.{length-append, length-map, get_or_append_left, get_or-append_right, get_or-map}
use Rattle.std.proofs.lemmas.List.Elements.{All-nil, All-cons, All-append, All-map, All-weaker, All-same, All-contains}
use Rattle.std.proofs.lemmas.List.Sums.{position_or_len_is}
use Rattle.std.proofs.lemmas.Slice.Eq.{bytes_eq-Decides}
use Rattle.std.proofs.lemmas.Option.{slice_get_within, get_or_from_slice_get}
use Rattle.tuple_rank.specs.Choices.{choices, choose, choose_to}
use Rattle.tuple_rank.specs.Tuples.{tuples, IsTuple, is_lexically_before, is_before, rank_of, TuplesAreAll, TuplesAscend, RankIsPlace, RankKeepsOrder}
use Rattle.tuple_rank.proofs.Choosing.{choices-zero, choices-none, choices-more, choose-grows}
use Rattle.tuple_rank.proofs.Places.{of_sizes, of_sizes-more, get-number, get-tuple}

-- ---- ascending lists of numbers from low on and below n, by recursion

abbrev pub IsBetween : ℕ → ℕ → List ℕ → Type 0
IsBetween low n [] = Unit {0}
IsBetween low n (x ∷ xs) = (low ≤ x) × (x < n) × IsBetween (x + 1) n xs

pub within-lower : (low low' n : ℕ) (xs : List ℕ) → low' ≤ low → IsBetween low n xs → IsBetween low' n xs
within-lower low low' n [] le h = tt
within-lower low low' n (x ∷ xs) le h = ((omega (arith, h.0)), h.1, h.2)

-- there are at most as many as there are numbers
pub within-few : (low n : ℕ) (xs : List ℕ) → low ≤ n → IsBetween low n xs → low + length xs ≤ n
within-few low n [] le h = omega arith
within-few low n (x ∷ xs) le h = omega (arith, h.0, h.1, within-few (x + 1) n xs (omega (arith, h.1)) h.2)

increasing-cons : (x : ℕ) (xs : List ℕ) → IsStrictlyIncreasing xs → (0 < length xs → x < slice_index xs 0) → IsStrictlyIncreasing (x ∷ xs)
increasing-cons x xs h first zero lt = first (omega arith)
increasing-cons x xs h first (suc k) lt = let e : suc k + 1 ≡ suc (k + 1) = omega arith in rw e (h k (omega arith))

increasing-tail : (x : ℕ) (xs : List ℕ) → IsStrictlyIncreasing (x ∷ xs) → IsStrictlyIncreasing xs
increasing-tail x xs h k lt = let e : suc k + 1 ≡ suc (k + 1) = omega arith in subst (λ j. slice_index xs k < slice_index (x ∷ xs) j) e (h (suc k) (omega arith))

pub within-increasing : (low n : ℕ) (xs : List ℕ) → IsBetween low n xs → IsStrictlyIncreasing xs
within-increasing low n [] h = λ k lt. absurd (omega arith)
within-increasing low n (x ∷ []) h = increasing-cons x [] (λ k lt. absurd (omega arith)) (λ lt. absurd (omega arith))
within-increasing low n (x ∷ y ∷ ys) h = increasing-cons x (y ∷ ys) (within-increasing (x + 1) n (y ∷ ys) h.2) (λ _. omega (arith, h.2.0))

pub within-below : (low n : ℕ) (xs : List ℕ) → IsBetween low n xs → All (λ x. x < n) xs
within-below low n [] h = All-nil (λ x. x < n)
within-below low n (x ∷ xs) h = All-cons (λ x. x < n) x xs h.1 (within-below (x + 1) n xs h.2)

pub within-from : (low n : ℕ) (xs : List ℕ) → IsStrictlyIncreasing xs → All (λ x. x < n) xs → (0 < length xs → low ≤ slice_index xs 0) → IsBetween low n xs
within-from low n [] up below first = tt
within-from low n (x ∷ xs) up below first =
    (first (omega arith), below 0 0 (omega arith), within-from (x + 1) n xs (increasing-tail x xs up) (λ k d lt. below (suc k) d (omega arith)) (λ some. omega (arith, up 0 (omega arith))))

pub tuple-within : (n t : ℕ) (xs : List ℕ) → IsTuple n t xs → IsBetween 0 n xs
tuple-within n t xs is = within-from 0 n xs is.ascending is.below (λ _. omega arith)

-- ---- the choices are the ascending lists of their length

abbrev IsChoice : ℕ → ℕ → ℕ → List ℕ → Type 0
IsChoice k low n ys = (length ys ≡ k) × IsBetween low n ys

choices-are : (k low n room : ℕ) → low + room ≡ n → All (IsChoice k low n) (choices k (range_with_len low room))
choices-are zero low n room is = All-same (IsChoice zero low n) _ _ (choices-zero (range_with_len low room)) (All-cons (IsChoice zero low n) [] [] (refl, tt) (All-nil (IsChoice zero low n)))
choices-are (suc k) low n zero is = All-same (IsChoice (suc k) low n) _ _ (choices-none k) (All-nil (IsChoice (suc k) low n))
choices-are (suc k) low n (suc room) is =
    let rest : List ℕ = range_with_len (low + 1) room in
    let first : All (IsChoice (suc k) low n) (map (λ ys. low ∷ ys) (choices k rest)) =
    All-map (IsChoice (suc k) low n) (λ ys. low ∷ ys) (choices k rest)
    (All-weaker (IsChoice k (low + 1) n) (λ ys. IsChoice (suc k) low n (low ∷ ys)) (λ ys h. ((omega (arith, h.0)), ((omega arith), (omega arith), h.1))) (choices k rest) (choices-are k (low + 1) n room (omega arith))) in
    let later : All (IsChoice (suc k) low n) (choices (suc k) rest) =
    All-weaker (IsChoice (suc k) (low + 1) n) (IsChoice (suc k) low n) (λ ys h. (h.0, within-lower (low + 1) low n ys (omega arith) h.1)) (choices (suc k) rest) (choices-are (suc k) (low + 1) n room (omega arith)) in
    All-same (IsChoice (suc k) low n) _ _ (choices-more k low rest) (All-append (IsChoice (suc k) low n) (map (λ ys. low ∷ ys) (choices k rest)) (choices (suc k) rest) first later)

-- each ascending list has a place
place_of_choice : (low n : ℕ) (ys : List ℕ) → IsBetween low n ys → (r : ℕ) × (slice_get (choices (length ys) (range_with_len low (n - low))) r ≡ Some ys)
place_of_choice low n [] h = (0, ap (λ xs. slice_get xs 0) (choices-zero (range_with_len low (n - low))))
place_of_choice low n (x ∷ xs) h =
    let found : (r : ℕ) × (slice_get (choices (length xs) (range_with_len (x + 1) (n - (x + 1)))) r ≡ Some xs) = place_of_choice (x + 1) n xs h.2 in
    let k : ℕ = length xs in
    let fewer : choose (n - x) (suc k) ≤ choose (n - low) (suc k) = choose-grows (n - x) (n - low) (suc k) (omega (arith, h.0)) in
    let p : ℕ = choose (n - low) (suc k) + found.0 - choose (n - x) (suc k) in
    (p, get-number k n low x p found.0 xs h.0 h.1 (omega arith) found.1)

place_of_tuple : (n t : ℕ) (xs : List ℕ) → IsTuple n t xs → (r : ℕ) × (slice_get (tuples n t) r ≡ Some xs)
place_of_tuple n t [] is = absurd (omega (arith, is.some))
place_of_tuple n t (x ∷ xs) is =
    let found : (r : ℕ) × (slice_get (choices (length (x ∷ xs)) (range_with_len 0 (n - 0))) r ≡ Some (x ∷ xs)) = place_of_choice 0 n (x ∷ xs) (tuple-within n t (x ∷ xs) is) in
    let k : ℕ = length xs in
    let same : n - 0 ≡ n = omega arith in
    (choose_to n k + found.0, get-tuple n t k (choose_to n k + found.0) found.0 (x ∷ xs) (omega (arith, is.few)) refl (ap (λ m. slice_get (choices (suc k) (range_with_len 0 m)) found.0) (sym same) ∙ found.1))

-- ---- the tuples are the lists that are tuples

sized-are : (n s : ℕ) → All (λ xs. IsBetween 0 n xs × (1 ≤ length xs) × (length xs ≤ s)) (of_sizes n s)
sized-are n zero = All-nil (λ xs. IsBetween 0 n xs × (1 ≤ length xs) × (length xs ≤ zero))
sized-are n (suc s) =
    let P : List ℕ → Type 0 = λ xs. IsBetween 0 n xs × (1 ≤ length xs) × (length xs ≤ suc s) in
    All-same P _ _ (of_sizes-more n s)
    (All-append P (of_sizes n s) (choices (suc s) (range_with_len 0 n))
    (All-weaker (λ xs. IsBetween 0 n xs × (1 ≤ length xs) × (length xs ≤ s)) P (λ xs h. (h.0, h.1, omega (arith, h.2))) (of_sizes n s) (sized-are n s))
    (All-weaker (IsChoice (suc s) 0 n) P (λ xs h. (h.1, omega (arith, h.0), omega (arith, h.0))) (choices (suc s) (range_with_len 0 n)) (choices-are (suc s) 0 n n (omega arith))))

tuples-are : (n t : ℕ) → All (IsTuple n t) (tuples n t)
unfolding tuples
tuples-are n t =
    All-weaker (λ xs. IsBetween 0 n xs × (1 ≤ length xs) × (length xs ≤ min t n)) (IsTuple n t)
    (λ xs h. record { ascending = within-increasing 0 n xs h.0; below = within-below 0 n xs h.0; some = h.1; few = h.2 }) (of_sizes n (min t n)) (sized-are n (min t n))

pub contains_at : {X : Type 0} (xs : List X) (r : ℕ) (x : X) → slice_get xs r ≡ Some x → Contains xs x
contains_at xs r x e = (r, slice_get_within xs r x e, get_or_from_slice_get xs r x x e)

pub tuples_are_all : TuplesAreAll
tuples_are_all n t xs =
    ((λ is. let found : (r : ℕ) × (slice_get (tuples n t) r ≡ Some xs) = place_of_tuple n t xs is in contains_at (tuples n t) found.0 xs found.1), (λ c. All-contains (IsTuple n t) (tuples n t) xs (tuples-are n t) c))

-- ---- the tuples ascend

pairs-append : (R : List ℕ → List ℕ → Type 0) (xs ys : List (List ℕ)) → AllPairs R xs → AllPairs R ys → ((i j : ℕ) (d : List ℕ) → i < length xs → j < length ys → R (get_or xs i d) (get_or ys j d)) → AllPairs R (xs ++ ys)
pairs-append R xs ys left right across i j d lt within =
    let len : length (xs ++ ys) ≡ length xs + length ys = length-append xs ys in
    ⊎_elim
    (λ first.
    ⊎_elim
    (λ second. rw (get_or_append_left xs ys d i first, get_or_append_left xs ys d j second) (left i j d lt second))
    (λ second. rw (get_or_append_left xs ys d i first, get_or-append_right xs ys (length xs) j d refl second) (across i (j - length xs) d first (omega arith)))
    (cases_lt j (length xs)))
    (λ first. rw (get_or-append_right xs ys (length xs) i d refl first, get_or-append_right xs ys (length xs) j d refl (omega arith)) (right (i - length xs) (j - length xs) d (omega arith) (omega arith)))
    (cases_lt i (length xs))

pairs-map : (R : List ℕ → List ℕ → Type 0) (f : List ℕ → List ℕ) (xs : List (List ℕ)) → AllPairs (λ x y. R (f x) (f y)) xs → AllPairs R (map f xs)
pairs-map R f xs h i j d lt within =
    let len : length (map f xs) ≡ length xs = length-map xs f in
    let second : j < length xs = omega arith in
    let first : i < length xs = omega arith in
    rw (get_or-map f xs i d d first, get_or-map f xs j d d second) (h i j d lt second)

lexically-same_first : (x : ℕ) (xs ys : List ℕ) → is_lexically_before xs ys ≡ true → is_lexically_before (x ∷ xs) (x ∷ ys) ≡ true
lexically-same_first x xs ys h = or_right (nat_lt x x) (nat_eq x x && is_lexically_before xs ys) (and_from (nat_eq x x) (is_lexically_before xs ys) (eq-eqb x x refl) h)

lexically-less_first : (x y : ℕ) (xs ys : List ℕ) → x < y → is_lexically_before (x ∷ xs) (y ∷ ys) ≡ true
lexically-less_first x y xs ys lt = or_left (nat_lt x y) (nat_eq x y && is_lexically_before xs ys) (lt-ltb x y lt)

-- a list that begins with x is before an ascending list from a greater number on
lexically-later : (x n k : ℕ) (xs ys : List ℕ) → IsChoice (suc k) (x + 1) n ys → is_lexically_before (x ∷ xs) ys ≡ true
lexically-later x n k xs [] h = absurd (omega (arith, h.0))
lexically-later x n k xs (y ∷ ys) h = lexically-less_first x y xs ys (omega (arith, h.1.0))

abbrev IsLexicallyBefore : List ℕ → List ℕ → Type 0
IsLexicallyBefore xs ys = is_lexically_before xs ys ≡ true

choices-ascend : (k low n room : ℕ) → low + room ≡ n → AllPairs IsLexicallyBefore (choices k (range_with_len low room))
choices-ascend zero low n room is = subst (AllPairs IsLexicallyBefore) (sym (choices-zero (range_with_len low room))) (λ i j d lt within. absurd (omega arith))
choices-ascend (suc k) low n zero is = subst (AllPairs IsLexicallyBefore) (sym (choices-none k)) (λ i j d lt within. absurd (omega arith))
choices-ascend (suc k) low n (suc room) is =
    let rest : List ℕ = range_with_len (low + 1) room in
    let first : List (List ℕ) = choices k rest in
    let later : List (List ℕ) = choices (suc k) rest in
    let in_first : AllPairs IsLexicallyBefore (map (λ ys. low ∷ ys) first) =
    pairs-map IsLexicallyBefore (λ ys. low ∷ ys) first (λ i j d lt within. lexically-same_first low (get_or first i d) (get_or first j d) (choices-ascend k (low + 1) n room (omega arith) i j d lt within)) in
    let in_later : AllPairs IsLexicallyBefore later = choices-ascend (suc k) (low + 1) n room (omega arith) in
    subst (AllPairs IsLexicallyBefore) (sym (choices-more k low rest))
    (pairs-append IsLexicallyBefore (map (λ ys. low ∷ ys) first) later in_first in_later (λ i j d first_in later_in.
    let len : length (map (λ ys. low ∷ ys) first) ≡ length first = length-map first (λ ys. low ∷ ys) in
    let i_in : i < length first = omega arith in
    rw (get_or-map (λ ys. low ∷ ys) first i d d i_in) (lexically-later low n k (get_or first i d) (get_or later j d) (choices-are (suc k) (low + 1) n room (omega arith) j d later_in))))

before-shorter : (xs ys : List ℕ) → length xs < length ys → is_before xs ys ≡ true
before-shorter xs ys lt = or_left (nat_lt (length xs) (length ys)) (nat_eq (length xs) (length ys) && is_lexically_before xs ys) (lt-ltb (length xs) (length ys) lt)

before-lexically : (xs ys : List ℕ) → length xs ≡ length ys → is_lexically_before xs ys ≡ true → is_before xs ys ≡ true
before-lexically xs ys same h = or_right (nat_lt (length xs) (length ys)) (nat_eq (length xs) (length ys) && is_lexically_before xs ys) (and_from (nat_eq (length xs) (length ys)) (is_lexically_before xs ys) (eq-eqb (length xs) (length ys) same) h)

abbrev IsBefore : List ℕ → List ℕ → Type 0
IsBefore xs ys = IsTrue (is_before xs ys)

sized-ascend : (n s : ℕ) → AllPairs IsBefore (of_sizes n s)
sized-ascend n zero = λ i j d lt within. absurd (omega arith)
sized-ascend n (suc s) =
    let all : List (List ℕ) = choices (suc s) (range_with_len 0 n) in
    let are : All (IsChoice (suc s) 0 n) all = choices-are (suc s) 0 n n (omega arith) in
    subst (AllPairs IsBefore) (sym (of_sizes-more n s))
    (pairs-append IsBefore (of_sizes n s) all (sized-ascend n s)
    (λ i j d lt within. before-lexically (get_or all i d) (get_or all j d) ((are i d (omega arith)).0 ∙ sym (are j d within).0) (choices-ascend (suc s) 0 n n (omega arith) i j d lt within))
    (λ i j d first later. before-shorter (get_or (of_sizes n s) i d) (get_or all j d) (omega (arith, (sized-are n s i d first).2, (are j d later).0))))

pub tuples_ascend : TuplesAscend
unfolding tuples
tuples_ascend n t = sized-ascend n (min t n)

-- ---- ranks

lexically-irreflexive : (xs : List ℕ) → is_lexically_before xs xs ≡ true → ⊥
lexically-irreflexive [] h = both_ways false refl h
lexically-irreflexive (x ∷ xs) h =
    ⊎_elim (λ lt. let l : x < x = ltb-true x x lt in omega arith) (λ both. lexically-irreflexive xs (and_parts (nat_eq x x) (is_lexically_before xs xs) both).1) (or_cases (nat_lt x x) (nat_eq x x && is_lexically_before xs xs) h)

lexically-asymmetric : (xs ys : List ℕ) → is_lexically_before xs ys ≡ true → is_lexically_before ys xs ≡ true → ⊥
lexically-asymmetric [] ys h g = both_ways false refl h
lexically-asymmetric (x ∷ xs) [] h g = both_ways false refl h
lexically-asymmetric (x ∷ xs) (y ∷ ys) h g =
    ⊎_elim
    (λ lt. ⊎_elim (λ gt. let l : x < y = ltb-true x y lt in let m : y < x = ltb-true y x gt in omega arith) (λ both. let l : x < y = ltb-true x y lt in let e : y ≡ x = eqb-true y x (and_parts (nat_eq y x) (is_lexically_before ys xs) both).0 in omega arith) (or_cases (nat_lt y x) (nat_eq y x && is_lexically_before ys xs) g))
    (λ both. let parts : (nat_eq x y ≡ true) × (is_lexically_before xs ys ≡ true) = and_parts (nat_eq x y) (is_lexically_before xs ys) both in
    ⊎_elim (λ gt. let m : y < x = ltb-true y x gt in let e : x ≡ y = eqb-true x y parts.0 in omega arith) (λ other. lexically-asymmetric xs ys parts.1 (and_parts (nat_eq y x) (is_lexically_before ys xs) other).1) (or_cases (nat_lt y x) (nat_eq y x && is_lexically_before ys xs) g))
    (or_cases (nat_lt x y) (nat_eq x y && is_lexically_before xs ys) h)

-- what being before says
before-cases : (xs ys : List ℕ) → is_before xs ys ≡ true → (length xs < length ys) ⊎ ((length xs ≡ length ys) × (is_lexically_before xs ys ≡ true))
before-cases xs ys h =
    ⊎_elim
    (λ lt. inl (ltb-true (length xs) (length ys) lt))
    (λ both. let parts : (nat_eq (length xs) (length ys) ≡ true) × (is_lexically_before xs ys ≡ true) = and_parts (nat_eq (length xs) (length ys)) (is_lexically_before xs ys) both in inr (eqb-true (length xs) (length ys) parts.0, parts.1))
    (or_cases (nat_lt (length xs) (length ys)) (nat_eq (length xs) (length ys) && is_lexically_before xs ys) h)

pub before-irreflexive : (xs : List ℕ) → is_before xs xs ≡ true → ⊥
before-irreflexive xs h = ⊎_elim (λ lt. omega arith) (λ same. lexically-irreflexive xs same.1) (before-cases xs xs h)

pub before-asymmetric : (xs ys : List ℕ) → is_before xs ys ≡ true → is_before ys xs ≡ true → ⊥
before-asymmetric xs ys h g =
    ⊎_elim
    (λ lt. ⊎_elim (λ gt. omega arith) (λ same. omega (arith, same.0)) (before-cases ys xs g))
    (λ same. ⊎_elim (λ gt. omega (arith, same.0)) (λ other. lexically-asymmetric xs ys same.1 other.1) (before-cases ys xs g))
    (before-cases xs ys h)

-- the rank of what stands at a place is that place
pub rank-at : (n t r : ℕ) (xs : List ℕ) → slice_get (tuples n t) r ≡ Some xs → rank_of n t xs ≡ r
unfolding rank_of
rank-at n t r xs e =
    let all : List (List ℕ) = tuples n t in
    let within : r < length all = slice_get_within all r xs e in
    let here : get_or all r [] ≡ xs = get_or_from_slice_get all r xs [] e in
    position_or_len_is (λ ys. bytes_eq ys xs) all r [] (omega arith)
    (λ k lt. false_from_ne_true (bytes_eq (get_or all k []) xs) (λ same.
    let kth : get_or all k [] ≡ xs = (bytes_eq-Decides (get_or all k []) xs).0 same in
    before-irreflexive xs (subst (λ ys. is_before ys xs ≡ true) kth (subst (λ ys. is_before (get_or all k []) ys ≡ true) here (tuples_ascend n t k r [] lt within)))))
    (λ _. (bytes_eq-Decides (get_or all r []) xs).1 here)

pub rank_is_place : RankIsPlace
rank_is_place n t xs rank is = (
  rank-at n t rank xs,
  (λ e. let found : (r : ℕ) × (slice_get (tuples n t) r ≡ Some xs) = place_of_tuple n t xs is in
      let same : found.0 ≡ rank = sym (rank-at n t found.0 xs found.1) ∙ e in
      ap (slice_get (tuples n t)) (sym same) ∙ found.1),
)

pub rank_keeps_order : RankKeepsOrder
rank_keeps_order n t xs ys is_xs is_ys =
    let all : List (List ℕ) = tuples n t in
    let i : ℕ = rank_of n t xs in
    let j : ℕ = rank_of n t ys in
    let at_i : slice_get all i ≡ Some xs = (rank_is_place n t xs i is_xs).1 refl in
    let at_j : slice_get all j ≡ Some ys = (rank_is_place n t ys j is_ys).1 refl in
    let here_i : get_or all i [] ≡ xs = get_or_from_slice_get all i xs [] at_i in
    let here_j : get_or all j [] ≡ ys = get_or_from_slice_get all j ys [] at_j in
    let up : (a b : ℕ) → a < b → b < length all → is_before (get_or all a []) (get_or all b []) ≡ true = λ a b lt within. tuples_ascend n t a b [] lt within in
    let back : i < j → is_before xs ys ≡ true = λ lt. subst (λ zs. is_before zs ys ≡ true) here_i (subst (λ zs. is_before (get_or all i []) zs ≡ true) here_j (up i j lt (slice_get_within all j ys at_j))) in (
      (λ before. ⊎_elim
          (λ same. absurd (before-irreflexive ys (subst (λ zs. is_before zs ys ≡ true) (sym here_i ∙ ap (λ a. get_or all a []) same ∙ here_j) before)))
          (λ apart. ⊎_elim (λ lt. lt) (λ gt. absurd (before-asymmetric xs ys before (subst (λ zs. is_before zs xs ≡ true) here_j (subst (λ zs. is_before (get_or all j []) zs ≡ true) here_i (up j i gt (slice_get_within all i xs at_i)))))) apart)
          (cases_order i j)),
      back,
    )
