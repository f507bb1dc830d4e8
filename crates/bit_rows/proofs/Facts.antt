-- What callers use of sets of numbers.
use Rattle.std.proofs.Common.{◌≡◌, ℕ, zero, suc, ◌+◌, ◌-◌, ◌<◌, ◌≤◌, Bool, true, false, not, ◌&&◌, ◌||◌, nat_le, if◌then◌else◌, None, Some, List, [], ◌∷◌, ◌++◌, length, find, slice_get, slice_set, get_or, replicate, ◌⊎◌, inl, inr, ⊎_elim, refl, sym, ap, ◌∙◌, subst, arith}
use Rattle.std.specs.List.{list_all, Contains, All}
use Rattle.std.specs.List.Sorted.{IsStrictlyIncreasing}
use Rattle.std.specs.Option.{option_or, MatchOption}
use Rattle.std.proofs.lemmas.Bool.{cases_Bool, cases_lt, cond-true, cond-false, cond_both, le-leb, lt-leb, and_parts, and_from, and_left, and_right, not_from_true, not_from_false, false_from_ne_true, both_ways}
use Rattle.std.proofs.lemmas.List.Elements.{All-nil, All-cons, All-head, All-tail, All-same, All-weaker, All-push, All-contains, Contains-append_left, Contains-push}
use Rattle.std.proofs.lemmas.List.{append-nil, get_or_past, get_or-set_same, get_or-set_other, get_or-replicate, length-replicate, length-append, get_or_append_left, get_or-append_right}
use Rattle.std.proofs.lemmas.List.Folds.{find-append}
use Rattle.std.proofs.lemmas.List.FromFn.{length-map-range_with_len, get_or-map-range_with_len, fill_by_all}
use Rattle.bit_rows.specs.Sets.{is_in, members_below, members, set_of, union, minus, meet, is_subset, first_member, next_member}

-- ---- membership

-- a number past the length is not in the set
pub is_in_past : (flags : List Bool) (i : ℕ) → length flags ≤ i → is_in flags i ≡ false
is_in_past flags i past = get_or_past flags i false past

-- what is in the set is below the length
pub is_in-below : (flags : List Bool) (i : ℕ) → is_in flags i ≡ true → i < length flags
is_in-below flags i h = ⊎_elim (λ lt. lt) (λ past. absurd (both_ways (is_in flags i) (is_in_past flags i past) h)) (cases_lt i (length flags))

pub is_in-empty : (n i : ℕ) → is_in (replicate n false) i ≡ false
is_in-empty n i = ⊎_elim (λ lt. get_or-replicate n i false false lt) (λ past. is_in_past (replicate n false) i (omega (arith, length_empty))) (cases_lt i n)
  where
    length_empty : length (replicate n false) ≡ n
    length_empty = length-replicate {A = Bool} n false

pub is_in-set_same : (flags : List Bool) (i : ℕ) (b : Bool) → i < length flags → is_in (slice_set flags i b) i ≡ b
is_in-set_same flags i b lt = get_or-set_same flags i b false lt

pub is_in-set_other : (flags : List Bool) (i k : ℕ) (b : Bool) → (k ≡ i → ⊥) → is_in (slice_set flags i b) k ≡ is_in flags k
is_in-set_other flags i k b other = get_or-set_other flags i k b false other

pub length-set_of : (n : ℕ) (test : ℕ → Bool) → length (set_of n test) ≡ n
unfolding set_of
length-set_of n test = length-map-range_with_len test 0 n

pub is_in-set_of : (n : ℕ) (test : ℕ → Bool) (i : ℕ) → i < n → is_in (set_of n test) i ≡ test i
unfolding set_of
is_in-set_of n test i lt = get_or-map-range_with_len test 0 n i i false lt (omega arith)

-- ---- sets are equal where they have the same length and the same numbers

pub set_of_is : (flags : List Bool) (n : ℕ) (test : ℕ → Bool) → length flags ≡ n → ((i : ℕ) → i < n → is_in flags i ≡ test i) → flags ≡ set_of n test
unfolding set_of
set_of_is flags n test len each = fill_by_all test flags n false len each

pub same_sets : (xs ys : List Bool) → length xs ≡ length ys → ((i : ℕ) → i < length xs → is_in xs i ≡ is_in ys i) → xs ≡ ys
same_sets xs ys len each = set_of_is xs (length xs) (is_in ys) refl each ∙ sym (set_of_is ys (length xs) (is_in ys) (sym len) (λ i _. refl))

-- ---- union, minus and meet

pub is_in-union : (xs ys : List Bool) (i : ℕ) → length xs ≡ length ys → is_in (union xs ys) i ≡ (is_in xs i || is_in ys i)
is_in-union xs ys i len =
    ⊎_elim (λ lt. is_in-set_of (length xs) (λ k. is_in xs k || is_in ys k) i lt)
    (λ past.
    let n : length (union xs ys) ≡ length xs = length-set_of (length xs) (λ k. is_in xs k || is_in ys k) in
    let u : is_in (union xs ys) i ≡ false = is_in_past (union xs ys) i (omega arith) in
    let x : is_in xs i ≡ false = is_in_past xs i past in
    let y : is_in ys i ≡ false = is_in_past ys i (omega arith) in
    u ∙ sym (ap (λ b. b || is_in ys i) x ∙ y))
    (cases_lt i (length xs))

pub is_in-minus : (xs ys : List Bool) (i : ℕ) → is_in (minus xs ys) i ≡ (is_in xs i && not (is_in ys i))
is_in-minus xs ys i =
    ⊎_elim (λ lt. is_in-set_of (length xs) (λ k. is_in xs k && not (is_in ys k)) i lt)
    (λ past.
    let n : length (minus xs ys) ≡ length xs = length-set_of (length xs) (λ k. is_in xs k && not (is_in ys k)) in
    let u : is_in (minus xs ys) i ≡ false = is_in_past (minus xs ys) i (omega arith) in
    u ∙ sym (ap (λ b. b && not (is_in ys i)) (is_in_past xs i past)))
    (cases_lt i (length xs))

pub is_in-meet : (xs ys : List Bool) (i : ℕ) → is_in (meet xs ys) i ≡ (is_in xs i && is_in ys i)
is_in-meet xs ys i =
    ⊎_elim (λ lt. is_in-set_of (length xs) (λ k. is_in xs k && is_in ys k) i lt)
    (λ past.
    let n : length (meet xs ys) ≡ length xs = length-set_of (length xs) (λ k. is_in xs k && is_in ys k) in
    let u : is_in (meet xs ys) i ≡ false = is_in_past (meet xs ys) i (omega arith) in
    u ∙ sym (ap (λ b. b && is_in ys i) (is_in_past xs i past)))
    (cases_lt i (length xs))

-- ---- members

pub members_below-in : (flags : List Bool) (n : ℕ) → is_in flags n ≡ true → members_below flags (suc n) ≡ members_below flags n ++ n ∷ []
members_below-in flags n is = ap (λ ms. members_below flags n ++ ms) (cond-true (is_in flags n) (n ∷ []) [] is)

pub members_below-out : (flags : List Bool) (n : ℕ) → is_in flags n ≡ false → members_below flags (suc n) ≡ members_below flags n
members_below-out flags n is = ap (λ ms. members_below flags n ++ ms) (cond-false (is_in flags n) (n ∷ []) [] is) ∙ append-nil (members_below flags n)

pub length-members_in : (flags : List Bool) (n : ℕ) → is_in flags n ≡ true → length (members_below flags (suc n)) ≡ length (members_below flags n) + 1
length-members_in flags n is = ap length (members_below-in flags n is) ∙ length-append (members_below flags n) (n ∷ [])

pub length-members_out : (flags : List Bool) (n : ℕ) → is_in flags n ≡ false → length (members_below flags (suc n)) ≡ length (members_below flags n)
length-members_out flags n is = ap length (members_below-out flags n is)

-- two sets with the same numbers below n
pub members_below-same : (xs ys : List Bool) (n : ℕ) → ((i : ℕ) → i < n → is_in xs i ≡ is_in ys i) → members_below xs n ≡ members_below ys n
members_below-same xs ys zero each = refl
members_below-same xs ys (suc n) each =
    let e : is_in xs n ≡ is_in ys n = each n (omega arith) in
    let r : members_below xs n ≡ members_below ys n = members_below-same xs ys n (λ i lt. each i (omega arith)) in cc

-- where no number from m on and below n is in the set, there are no more members
pub members_below-none : (flags : List Bool) (m n : ℕ) → m ≤ n → ((i : ℕ) → m ≤ i → i < n → is_in flags i ≡ false) → members_below flags n ≡ members_below flags m
members_below-none flags m zero le none = let e : m ≡ zero = omega arith in ap (members_below flags) (sym e)
members_below-none flags m (suc n) le none =
    ⊎_elim
    (λ lt. members_below-out flags n (none n (omega arith) (omega arith)) ∙ members_below-none flags m n (omega arith) (λ i l r. none i l (omega arith)))
    (λ past. let e : m ≡ suc n = omega arith in ap (members_below flags) (sym e))
    (cases_lt m (suc n))

pub members_below_past : (flags : List Bool) (n : ℕ) → length flags ≤ n → members_below flags n ≡ members flags
members_below_past flags n past = members_below-none flags (length flags) n past (λ i from _. is_in_past flags i from)

pub members_below-empty : (k n : ℕ) → members_below (replicate k false) n ≡ []
members_below-empty k n = members_below-none (replicate k false) 0 n (omega arith) (λ i _ _. is_in-empty k i)

pub length-members_below : (flags : List Bool) (n : ℕ) → length (members_below flags n) ≤ n
length-members_below flags zero = omega arith
length-members_below flags (suc n) =
    ⊎_elim
    (λ is. omega (arith, length-members_in flags n is, length-members_below flags n))
    (λ is. omega (arith, length-members_out flags n is, length-members_below flags n))
    (cases_Bool (is_in flags n))

-- each member of the numbers below n is below n
pub members_below-lt : (flags : List Bool) (n : ℕ) → All (λ m. m < n) (members_below flags n)
members_below-lt flags zero = All-nil (λ m. m < zero)
members_below-lt flags (suc n) =
    let before : All (λ m. m < suc n) (members_below flags n) = All-weaker (λ m. m < n) (λ m. m < suc n) (λ m lt. omega arith) (members_below flags n) (members_below-lt flags n) in
    ⊎_elim
    (λ is. All-same (λ m. m < suc n) _ _ (members_below-in flags n is) (All-push (λ m. m < suc n) (members_below flags n) n before (omega arith)))
    (λ is. All-same (λ m. m < suc n) _ _ (members_below-out flags n is) before)
    (cases_Bool (is_in flags n))

pub members-lt : (flags : List Bool) → All (λ m. m < length flags) (members flags)
members-lt flags = members_below-lt flags (length flags)

-- each member is in the set
pub members_below-are_in : (flags : List Bool) (n : ℕ) → All (λ m. is_in flags m ≡ true) (members_below flags n)
members_below-are_in flags zero = All-nil (λ m. is_in flags m ≡ true)
members_below-are_in flags (suc n) =
    ⊎_elim
    (λ is. All-same (λ m. is_in flags m ≡ true) _ _ (members_below-in flags n is) (All-push (λ m. is_in flags m ≡ true) (members_below flags n) n (members_below-are_in flags n) is))
    (λ is. All-same (λ m. is_in flags m ≡ true) _ _ (members_below-out flags n is) (members_below-are_in flags n))
    (cases_Bool (is_in flags n))

pub members-are_in : (flags : List Bool) → All (λ m. is_in flags m ≡ true) (members flags)
members-are_in flags = members_below-are_in flags (length flags)

-- what is in the set is a member
pub members_below-contain : (flags : List Bool) (n i : ℕ) → i < n → is_in flags i ≡ true → Contains (members_below flags n) i
members_below-contain flags zero i lt is = absurd (omega arith)
members_below-contain flags (suc n) i lt is =
    ⊎_elim
    (λ before. Contains-append_left (members_below flags n) _ i (members_below-contain flags n i before is))
    (λ past.
    let e : n ≡ i = omega arith in
    let here : Contains (members_below flags (suc n)) n = subst (λ ms. Contains ms n) (sym (members_below-in flags n (ap (is_in flags) e ∙ is))) (Contains-push (members_below flags n) n) in
    subst (Contains (members_below flags (suc n))) e here)
    (cases_lt i n)

pub members-contain : (flags : List Bool) (i : ℕ) → is_in flags i ≡ true → Contains (members flags) i
members-contain flags i is = members_below-contain flags (length flags) i (is_in-below flags i is) is

-- each member is below the next
increasing-push : (xs : List ℕ) (n : ℕ) → IsStrictlyIncreasing xs → All (λ m. m < n) xs → IsStrictlyIncreasing (xs ++ n ∷ [])
increasing-push xs n increasing below k lt =
    let len : length (xs ++ n ∷ []) ≡ length xs + 1 = length-append xs (n ∷ []) in
    let kth : get_or (xs ++ n ∷ []) k 0 ≡ get_or xs k 0 = get_or_append_left xs (n ∷ []) 0 k (omega arith) in
    ⊎_elim
    (λ before.
    let next : get_or (xs ++ n ∷ []) (k + 1) 0 ≡ get_or xs (k + 1) 0 = get_or_append_left xs (n ∷ []) 0 (k + 1) before in
    let h : get_or xs k 0 < get_or xs (k + 1) 0 = increasing k before in omega arith)
    (λ past.
    let zero_is : k + 1 - length xs ≡ 0 = omega arith in
    let next : get_or (xs ++ n ∷ []) (k + 1) 0 ≡ n = get_or-append_right xs (n ∷ []) (length xs) (k + 1) 0 refl past ∙ ap (λ i. get_or (n ∷ []) i 0) zero_is in
    let h : get_or xs k 0 < n = below k 0 (omega arith) in omega arith)
    (cases_lt (k + 1) (length xs))

pub members_below-ascend : (flags : List Bool) (n : ℕ) → IsStrictlyIncreasing (members_below flags n)
members_below-ascend flags zero = λ k lt. absurd (omega arith)
members_below-ascend flags (suc n) =
    ⊎_elim
    (λ is. subst IsStrictlyIncreasing (sym (members_below-in flags n is)) (increasing-push (members_below flags n) n (members_below-ascend flags n) (members_below-lt flags n)))
    (λ is. subst IsStrictlyIncreasing (sym (members_below-out flags n is)) (members_below-ascend flags n))
    (cases_Bool (is_in flags n))

pub members-ascend : (flags : List Bool) → IsStrictlyIncreasing (members flags)
members-ascend flags = members_below-ascend flags (length flags)

-- what lies inside another set and what lies outside make up a set
pub count-inside_outside : (xs ys : List Bool) (n : ℕ) → length (members_below (meet xs ys) n) + length (members_below (minus xs ys) n) ≡ length (members_below xs n)
count-inside_outside xs ys zero = refl
count-inside_outside xs ys (suc n) =
    let before : length (members_below (meet xs ys) n) + length (members_below (minus xs ys) n) ≡ length (members_below xs n) = count-inside_outside xs ys n in
    let inside : is_in (meet xs ys) n ≡ (is_in xs n && is_in ys n) = is_in-meet xs ys n in
    let outside : is_in (minus xs ys) n ≡ (is_in xs n && not (is_in ys n)) = is_in-minus xs ys n in
    ⊎_elim
    (λ x.
    let all : length (members_below xs (suc n)) ≡ length (members_below xs n) + 1 = length-members_in xs n x in
    ⊎_elim
    (λ y.
    let m : length (members_below (meet xs ys) (suc n)) ≡ length (members_below (meet xs ys) n) + 1 = length-members_in (meet xs ys) n (inside ∙ and_from (is_in xs n) (is_in ys n) x y) in
    let o : length (members_below (minus xs ys) (suc n)) ≡ length (members_below (minus xs ys) n) = length-members_out (minus xs ys) n (outside ∙ and_right (is_in xs n) (not (is_in ys n)) (not_from_true (is_in ys n) y)) in
    omega (arith, before))
    (λ y.
    let m : length (members_below (meet xs ys) (suc n)) ≡ length (members_below (meet xs ys) n) = length-members_out (meet xs ys) n (inside ∙ and_right (is_in xs n) (is_in ys n) y) in
    let o : length (members_below (minus xs ys) (suc n)) ≡ length (members_below (minus xs ys) n) + 1 = length-members_in (minus xs ys) n (outside ∙ and_from (is_in xs n) (not (is_in ys n)) x (not_from_false (is_in ys n) y)) in
    omega (arith, before))
    (cases_Bool (is_in ys n)))
    (λ x.
    let all : length (members_below xs (suc n)) ≡ length (members_below xs n) = length-members_out xs n x in
    let m : length (members_below (meet xs ys) (suc n)) ≡ length (members_below (meet xs ys) n) = length-members_out (meet xs ys) n (inside ∙ and_left (is_in xs n) (is_in ys n) x) in
    let o : length (members_below (minus xs ys) (suc n)) ≡ length (members_below (minus xs ys) n) = length-members_out (minus xs ys) n (outside ∙ and_left (is_in xs n) (not (is_in ys n)) x) in
    omega (arith, before))
    (cases_Bool (is_in xs n))

-- ---- subsets

pub is_subset-each : (xs ys : List Bool) → is_subset xs ys ≡ true → (i : ℕ) → is_in xs i ≡ true → is_in ys i ≡ true
is_subset-each xs ys is i x = All-contains (λ m. is_in ys m ≡ true) (members xs) i (All-from_list_all (is_in ys) (members xs) is) (members-contain xs i x)
  where
    All-from_list_all : (p : ℕ → Bool) (ms : List ℕ) → list_all p ms ≡ true → All (λ m. p m ≡ true) ms
    All-from_list_all p [] h = All-nil (λ m. p m ≡ true)
    All-from_list_all p (m ∷ ms) h = let parts = and_parts (p m) (list_all p ms) h in All-cons (λ m. p m ≡ true) m ms parts.0 (All-from_list_all p ms parts.1)

pub each-is_subset : (xs ys : List Bool) → ((i : ℕ) → is_in xs i ≡ true → is_in ys i ≡ true) → is_subset xs ys ≡ true
each-is_subset xs ys each = list_all-from_All (is_in ys) (members xs) (All-weaker (λ m. is_in xs m ≡ true) (λ m. is_in ys m ≡ true) each (members xs) (members-are_in xs))
  where
    list_all-from_All : (p : ℕ → Bool) (ms : List ℕ) → All (λ m. p m ≡ true) ms → list_all p ms ≡ true
    list_all-from_All p [] h = refl
    list_all-from_All p (m ∷ ms) h = and_from (p m) (list_all p ms) (All-head (λ m. p m ≡ true) m ms h) (list_all-from_All p ms (All-tail (λ m. p m ≡ true) m ms h))

pub is_subset-itself : (xs : List Bool) → is_subset xs xs ≡ true
is_subset-itself xs = each-is_subset xs xs (λ i is. is)

-- sets of one length are equal where each is a subset of the other
pub subsets_same : (xs ys : List Bool) → length xs ≡ length ys → is_subset xs ys ≡ true → is_subset ys xs ≡ true → xs ≡ ys
subsets_same xs ys len there back =
    same_sets xs ys len (λ i _.
    ⊎_elim
    (λ inside. inside ∙ sym (is_subset-each xs ys there i inside))
    (λ out. out ∙ sym (false_from_ne_true (is_in ys i) (λ is. both_ways (is_in xs i) out (is_subset-each ys xs back i is))))
    (cases_Bool (is_in xs i)))

-- a set with a number outside the other is no subset
pub not_subset : (xs ys : List Bool) (i : ℕ) → is_in xs i ≡ true → is_in ys i ≡ false → is_subset xs ys ≡ false
not_subset xs ys i x y = false_from_ne_true (is_subset xs ys) (λ is. both_ways (is_in ys i) y (is_subset-each xs ys is i x))

-- ---- the least member from a number on

-- i is the least number of the set from start on
pub record IsLeastFrom (flags : List Bool) (start i : ℕ) : Type 0 where
  pub from : start ≤ i
  pub within : i < length flags
  pub is_member : is_in flags i ≡ true
  pub before : (j : ℕ) → start ≤ j → j < i → is_in flags j ≡ false

-- no number from start on is in the set
abbrev pub NoneFrom : List Bool → ℕ → Type 0
NoneFrom flags start = (j : ℕ) → start ≤ j → is_in flags j ≡ false

find_none : (flags : List Bool) (start n : ℕ) → ((j : ℕ) → start ≤ j → j < n → is_in flags j ≡ false) → find (λ i. nat_le start i) (members_below flags n) ≡ None
find_none flags start zero none = refl
find_none flags start (suc n) none =
    let before : find (λ i. nat_le start i) (members_below flags n) ≡ None = find_none flags start n (λ j from lt. none j from (omega arith)) in
    ⊎_elim
    (λ lt. find-append (λ i. nat_le start i) (members_below flags n) (if is_in flags n then n ∷ [] else []) ∙ ap (λ o. option_or o (find (λ i. nat_le start i) (if is_in flags n then n ∷ [] else []))) before ∙ last lt)
    (λ from. ap (find (λ i. nat_le start i)) (members_below-out flags n (none n from (omega arith))) ∙ before)
    (cases_lt n start)
  where
    last : n < start → find (λ i. nat_le start i) (if is_in flags n then n ∷ [] else []) ≡ None
    last lt = cond_both (is_in flags n) (n ∷ []) [] (λ ms. find (λ i. nat_le start i) ms ≡ None) (λ _. cond-false (nat_le start n) (Some n) None (lt-leb start n lt)) (λ _. refl)

find_some : (flags : List Bool) (start i n : ℕ) → i < n → IsLeastFrom flags start i → find (λ i. nat_le start i) (members_below flags n) ≡ Some i
find_some flags start i zero lt least = absurd (omega arith)
find_some flags start i (suc n) lt least =
    ⊎_elim
    (λ before. find-append (λ i. nat_le start i) (members_below flags n) (if is_in flags n then n ∷ [] else []) ∙ ap (λ o. option_or o (find (λ i. nat_le start i) (if is_in flags n then n ∷ [] else []))) (find_some flags start i n before least))
    (λ past.
    let e : n ≡ i = omega arith in
    let is : is_in flags n ≡ true = ap (is_in flags) e ∙ least.is_member in
    ap (find (λ i. nat_le start i)) (members_below-in flags n is)
    ∙ find-append (λ i. nat_le start i) (members_below flags n) (n ∷ [])
    ∙ ap (λ o. option_or o (find (λ i. nat_le start i) (n ∷ []))) (find_none flags start n (λ j from l. least.before j from (omega arith)))
    ∙ cond-true (nat_le start n) (Some n) None (le-leb start n (omega (arith, least.from)))
    ∙ ap Some e)
    (cases_lt i n)

-- the first of the members from start on
pub first_from : (flags : List Bool) (start i : ℕ) → IsLeastFrom flags start i → find (λ i. nat_le start i) (members flags) ≡ Some i
first_from flags start i least = find_some flags start i (length flags) least.within least

pub none_from : (flags : List Bool) (start : ℕ) → NoneFrom flags start → find (λ i. nat_le start i) (members flags) ≡ None
none_from flags start none = find_none flags start (length flags) (λ j from _. none j from)

search_from : (flags : List Bool) (start n : ℕ) → ((j : ℕ) → start ≤ j → j < n → is_in flags j ≡ false) ⊎ ((i : ℕ) × (i < n) × (start ≤ i) × (is_in flags i ≡ true) × ((j : ℕ) → start ≤ j → j < i → is_in flags j ≡ false))
search_from flags start zero = inl (λ j from lt. absurd (omega arith))
search_from flags start (suc n) =
    ⊎_elim
    (λ none.
    ⊎_elim
    (λ lt. inl (λ j from l. absurd (omega arith)))
    (λ from. ⊎_elim (λ is. inr (n, (omega arith), from, is, none)) (λ is. inl (λ j f l. ⊎_elim (λ before. none j f before) (λ past. let e : n ≡ j = omega arith in subst (λ k. is_in flags k ≡ false) e is) (cases_lt j n))) (cases_Bool (is_in flags n)))
    (cases_lt n start))
    (λ (i, lt, from, is, before). inr (i, (omega arith), from, is, before))
    (search_from flags start n)

-- the members from start on: there is none, or there is a least one
from_is : (flags : List Bool) (start : ℕ) → MatchOption (find (λ i. nat_le start i) (members flags)) (NoneFrom flags start) (IsLeastFrom flags start)
from_is flags start =
    ⊎_elim
    (λ none.
    let all : NoneFrom flags start = λ j from. ⊎_elim (λ lt. none j from lt) (λ past. is_in_past flags j past) (cases_lt j (length flags)) in
    subst (λ r. MatchOption r (NoneFrom flags start) (IsLeastFrom flags start)) (sym (none_from flags start all)) all)
    (λ (i, lt, from, is, before).
    let least : IsLeastFrom flags start i = record { from = from; within = lt; is_member = is; before = before } in
    subst (λ r. MatchOption r (NoneFrom flags start) (IsLeastFrom flags start)) (sym (first_from flags start i least)) least)
    (search_from flags start (length flags))

pub first_member-from : (flags : List Bool) → find (λ i. nat_le 0 i) (members flags) ≡ first_member flags
first_member-from flags = any_first (members flags)
  where
    any_first : (xs : List ℕ) → find (λ i. nat_le 0 i) xs ≡ slice_get xs 0
    any_first [] = refl
    any_first (x ∷ xs) = cond-true (nat_le 0 x) (Some x) (find (λ i. nat_le 0 i) xs) (le-leb 0 x (omega arith))

-- the first member: there is none, or it is the least
pub first_member-is : (flags : List Bool) → MatchOption (first_member flags) (NoneFrom flags 0) (IsLeastFrom flags 0)
first_member-is flags = subst (λ r. MatchOption r (NoneFrom flags 0) (IsLeastFrom flags 0)) (first_member-from flags) (from_is flags 0)

-- the next member after a number: there is none, or it is the least above that number
pub next_member-is : (flags : List Bool) (after : ℕ) → MatchOption (next_member flags after) (NoneFrom flags (suc after)) (IsLeastFrom flags (suc after))
next_member-is flags after = from_is flags (suc after)

-- where there is no member from a number on, the members are those below it
pub members-none_from : (flags : List Bool) (start : ℕ) → NoneFrom flags start → members_below flags start ≡ members flags
members-none_from flags start none =
    ⊎_elim
    (λ lt. sym (members_below-none flags start (length flags) (omega arith) (λ i from _. none i from)))
    (λ past. members_below_past flags start past)
    (cases_lt start (length flags))

-- there is no member between a number and the least one from it on
pub members_below-least : (flags : List Bool) (start i : ℕ) → IsLeastFrom flags start i → members_below flags i ≡ members_below flags start
members_below-least flags start i least = members_below-none flags start i least.from least.before

-- the lengths of sets, for the list of a tactic or of a function's attribute
pub ruleset lengths = (length-set_of)
