-- Lists of numbers that have none twice.
use Rattle.std.proofs.Common.{◌≡◌, ℕ, zero, suc, ◌+◌, ◌<◌, ◌≤◌, Bool, true, false, not, ◌||◌, ◌==◌, List, [], ◌∷◌, ◌++◌, length, get_or, take, refl, sym, ap, ◌∙◌, subst, arith, ⊎_elim}
use Rattle.std.proofs.lemmas.Bool.{cases_Bool, cond-true, cond-false, and_parts, and_from, or_cases, or_parts, or_from, or_right, not-true, ne_eqb, eqb-true, eqb-false, both_ways}
use Rattle.std.proofs.lemmas.List.{append-nil, length-append}
use Rattle.expr_table.specs.Table.{has}
use Rattle.once_random.specs.Numbers.{count_below}
use Rattle.once_random.proofs.Facts.{has-++, has_first, count_below-le, count_none}
use Rattle.live_rows.specs.Lists.{are_distinct, with_added}
use Rattle.live_rows.proofs.Counts.{count_more}

pub or-false : (b : Bool) → (b || false) ≡ b
or-false true = refl
or-false false = refl

pub has_push : (xs : List ℕ) (x r : ℕ) → has (xs ++ x ∷ []) r ≡ (has xs r || (x == r))
has_push xs x r = has-++ xs (x ∷ []) r ∙ ap (λ b. has xs r || b) (or-false (x == r))

-- two numbers that are not equal, in either order
pub apart_turned : (x y : ℕ) → (x == y) ≡ false → (y == x) ≡ false
apart_turned x y h = ne_eqb y x (λ e. eqb-false x y h (sym e))

pub distinct_push : (xs : List ℕ) (x : ℕ) → are_distinct xs ≡ true → has xs x ≡ false → are_distinct (xs ++ x ∷ []) ≡ true
distinct_push [] x d h = refl
distinct_push (y ∷ ys) x d h =
    let p = and_parts (not (has ys y)) (are_distinct ys) d in
    let q = or_parts (y == x) (has ys x) h in
    and_from _ _ (ap not (has_push ys x y ∙ or_from (has ys y) (x == y) (not-true (has ys y) p.0) (apart_turned y x q.0))) (distinct_push ys x p.1 q.1)

pub distinct_pop : (xs : List ℕ) (x : ℕ) → are_distinct (xs ++ x ∷ []) ≡ true → (are_distinct xs ≡ true) × (has xs x ≡ false)
distinct_pop [] x d = (refl, refl)
distinct_pop (y ∷ ys) x d =
    let p = and_parts (not (has (ys ++ x ∷ []) y)) (are_distinct (ys ++ x ∷ [])) d in
    let r = distinct_pop ys x p.1 in
    let none : (has ys y || (x == y)) ≡ false = sym (has_push ys x y) ∙ not-true (has (ys ++ x ∷ []) y) p.0 in
    let q = or_parts (has ys y) (x == y) none in
    (and_from _ _ (ap not q.0) r.0, or_from (y == x) (has ys x) (apart_turned x y q.1) r.1)

-- a list that has none twice is as long as it has numbers
pub length_is_count : (n : ℕ) (xs : List ℕ) → are_distinct xs ≡ true → ((r : ℕ) → has xs r ≡ true → r < n) → length xs ≡ count_below n (has xs)
length_is_count n [] d within = sym (count_none (has []) n (λ i l. refl))
length_is_count n (x ∷ xs) d within =
    let p = and_parts (not (has xs x)) (are_distinct xs) d in
    let rest : length xs ≡ count_below n (has xs) = length_is_count n xs p.1 (λ r h. within r (or_right (x == r) (has xs r) h)) in
    let more : count_below n (has (x ∷ xs)) ≡ count_below n (has xs) + 1 =
    count_more (has xs) (has (x ∷ xs)) n x (within x (has_first x xs)) (not-true (has xs x) p.0) (has_first x xs)
    (λ i l other. ap (λ b. b || has xs i) (ne_eqb x i (λ e. other (sym e)))) in
    suc_is _ _ _ rest more
  where
    suc_is : (a b c : ℕ) → a ≡ b → c ≡ b + 1 → suc a ≡ c
    suc_is a b c e f = omega arith

pub length_within : (n : ℕ) (xs : List ℕ) → are_distinct xs ≡ true → ((r : ℕ) → has xs r ≡ true → r < n) → length xs ≤ n
length_within n xs d within = omega (arith, length_is_count n xs d within, count_below-le n (has xs))

-- A list of numbers below n that has none twice and lacks one of them has fewer than n.
pub room_left : (n : ℕ) (xs : List ℕ) (x : ℕ) → are_distinct xs ≡ true → ((r : ℕ) → has xs r ≡ true → r < n) → x < n → has xs x ≡ false → length xs < n
room_left n xs x d within lt lacks =
    let more : length (x ∷ xs) ≤ n = length_within n (x ∷ xs) (and_from (not (has xs x)) (are_distinct xs) (ap not lacks) d)
    (λ r h. ⊎_elim (λ e. subst (λ k. k < n) (eqb-true x r e) lt) (within r) (or_cases (x == r) (has xs r) h)) in
    shorter (length xs) n more
  where
    shorter : (a n : ℕ) → suc a ≤ n → a < n
    shorter a n h = omega arith

-- what stands at a place is in the list
pub has_at : (xs : List ℕ) (i d : ℕ) → i < length xs → has xs (get_or xs i d) ≡ true
has_at [] i d l = absurd (none i l)
  where
    none : (i : ℕ) → i < 0 → ⊥
    none i l = omega arith
has_at (x ∷ xs) zero d l = has_first x xs
has_at (x ∷ xs) (suc i) d l = or_right (x == get_or xs i d) (has xs (get_or xs i d)) (has_at xs i d (less i (length xs) l))
  where
    less : (i n : ℕ) → suc i < suc n → i < n
    less i n h = omega arith

-- what a list with none twice has after a front is not in the front
pub not_in_front : (xs : List ℕ) (i d : ℕ) → are_distinct xs ≡ true → i < length xs → has (take i xs) (get_or xs i d) ≡ false
not_in_front [] i d dist l = absurd (none i l)
  where
    none : (i : ℕ) → i < 0 → ⊥
    none i l = omega arith
not_in_front (x ∷ xs) zero d dist l = refl
not_in_front (x ∷ xs) (suc i) d dist l =
    let p = and_parts (not (has xs x)) (are_distinct xs) dist in
    let at : has xs (get_or xs i d) ≡ true = has_at xs i d (less i (length xs) l) in
    or_from (x == get_or xs i d) (has (take i xs) (get_or xs i d))
    (ne_eqb x (get_or xs i d) (λ e. both_ways (has xs x) (not-true (has xs x) p.0) (subst (λ k. has xs k ≡ true) (sym e) at)))
    (not_in_front xs i d p.1 (less i (length xs) l))
  where
    less : (i n : ℕ) → suc i < suc n → i < n
    less i n h = omega arith

pub or_turned : (a b : Bool) → (a || b) ≡ (b || a)
or_turned true true = refl
or_turned true false = refl
or_turned false true = refl
or_turned false false = refl

-- a number that was taken from the end
pub taken-has : (old new : List ℕ) (x : ℕ) → old ≡ new ++ x ∷ [] → (r : ℕ) → has old r ≡ ((x == r) || has new r)
taken-has old new x is r = ap (λ xs. has xs r) is ∙ has_push new x r ∙ or_turned (has new r) (x == r)

pub taken-length : (old new : List ℕ) (x : ℕ) → old ≡ new ++ x ∷ [] → length old ≡ suc (length new)
taken-length old new x is = let e : length old ≡ length (new ++ x ∷ []) = ap length is in omega (arith, length-append new (x ∷ []))

-- a list with a number at its end where it was not there is the list, and more
pub with_more : (xs : List ℕ) (x : ℕ) → (more : List ℕ) × (with_added xs x ≡ xs ++ more)
with_more xs x =
    ⊎_elim
    (λ t. ([], cond-true (has xs x) xs (xs ++ x ∷ []) t ∙ sym (append-nil xs)))
    (λ f. (x ∷ [], cond-false (has xs x) xs (xs ++ x ∷ []) f))
    (cases_Bool (has xs x))
