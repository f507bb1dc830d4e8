-- A family's tuples among all tuples of at most t numbers.
use Rattle.std.proofs.Common.{◌≡◌, ℕ, zero, suc, ◌+◌, ◌<◌, ◌≤◌, min, Bool, true, false, not, cond, List, [], ◌∷◌, length, refl, sym, ap, ◌∙◌, subst, arith, ⊎_elim, Option, Some, None, All, count_by}
use Rattle.std.proofs.lemmas.Bool.{cases_Bool, cases_eq, cases_lt, true≢false, cond-true, cond-false, false_from_ne_true}
use Rattle.std.proofs.lemmas.List.Folds.{find-append}
use Rattle.std.proofs.lemmas.List.Elements.{All-head}
use Rattle.std.proofs.lemmas.Option.{same_Some}
use Rattle.std.proofs.lemmas.List.Sums.{sum_by-cons, count_by-le-length}
use Rattle.std.specs.List.{find, flat_map, range_with_len, position_or_len, AllByRecursion}
use Rattle.std.specs.Option.{option_or}
use Rattle.std.specs.Str.{bytes_eq}
use Rattle.std.specs.Cmp.Lexicographic.{bytes_decides}
use Rattle.tuple_rank.specs.Choices.{choices}
use Rattle.tuple_rank.specs.Tuples.{tuples, IsTuple, rank_of}
use Rattle.tuple_rank.proofs.Order.{within-few, within-increasing, within-below}
use Rattle.probe_family.specs.declared.part.Part.{Part}
use Rattle.probe_family.specs.declared.family.Family.{Family}
use Rattle.probe_family.specs.Families.{is_tuple_of, total_take, weight_of, IsPart, IsFamily}
use Rattle.probe_family.specs.Least.{least_of}
use Rattle.probe_family.proofs.Bits.{one_if, count_cons, count_append}
use Rattle.probe_family.proofs.Ranges.{IsChosen, choices_are_chosen}
use Rattle.probe_family.proofs.Rules.{are_parts}
use Rattle.probe_family.proofs.Weights.{ways}
use Rattle.probe_family.proofs.Tuples.{tuple_is_chosen, first_of_size, weight_is_ways}

count_no : {X : Type 0} (p : X → Bool) (xs : List X) → AllByRecursion (λ x. p x ≡ false) xs → count_by p xs ≡ 0
count_no p [] all = refl
count_no p (x ∷ xs) all = count_cons p x xs ∙ (ap (λ b. one_if b + count_by p xs) all.0 ∙ (let e = count_no p xs all.1 in omega arith))

find_no : {X : Type 0} (p : X → Bool) (xs : List X) → AllByRecursion (λ x. p x ≡ false) xs → find p xs ≡ None
find_no p [] all = refl
find_no p (x ∷ xs) all = cond-false (p x) (Some x) (find p xs) all.0 ∙ find_no p xs all.1

-- a test that only ways to choose `size` numbers pass, among those of all sizes
module _ (p : List ℕ → Bool) (numbers : List ℕ) (size : ℕ) (only : (k : ℕ) → (k ≡ size → ⊥) → AllByRecursion (λ t. p t ≡ false) (choices k numbers)) where
  abbrev of_sizes : ℕ → ℕ → List (List ℕ)
  of_sizes a m = flat_map (λ k. choices k numbers) (range_with_len a m)

  find_outside : (a m : ℕ) → size < a → find p (of_sizes a m) ≡ None
  find_outside a zero past = refl
  find_outside a (suc m) past =
      find-append p (choices a numbers) (of_sizes (a + 1) m)
      ∙ (ap (λ o. option_or o (find p (of_sizes (a + 1) m))) (find_no p (choices a numbers) (only a (λ e. omega arith)))
      ∙ find_outside (a + 1) m (omega arith))

  or_none : (o : Option (List ℕ)) → option_or o None ≡ o
  or_none None = refl
  or_none (Some t) = refl

  find_in_sizes : (a m : ℕ) → a ≤ size → size < a + m → find p (of_sizes a m) ≡ find p (choices size numbers)
  find_in_sizes a zero from below = absurd (omega arith)
  find_in_sizes a (suc m) from below =
      find-append p (choices a numbers) (of_sizes (a + 1) m)
      ∙ ⊎_elim
      (λ same. ap (λ o. option_or (find p (choices a numbers)) o) (find_outside (a + 1) m (omega arith)) ∙ (or_none (find p (choices a numbers)) ∙ ap (λ k. find p (choices k numbers)) same))
      (λ other. ap (λ o. option_or o (find p (of_sizes (a + 1) m))) (find_no p (choices a numbers) (only a other)) ∙ find_in_sizes (a + 1) m (lt_of a size from other) (omega arith))
      (cases_eq a size)
    where
      lt_of : (x y : ℕ) → x ≤ y → (x ≡ y → ⊥) → x + 1 ≤ y
      lt_of x y le other = ⊎_elim (λ lt. omega arith) (λ ge. absurd (other (omega arith))) (cases_lt x y)

  count_outside : (a m : ℕ) → size < a → count_by p (of_sizes a m) ≡ 0
  count_outside a zero past = refl
  count_outside a (suc m) past =
      count_append p (choices a numbers) (of_sizes (a + 1) m)
      ∙ (let here = count_no p (choices a numbers) (only a (λ e. omega arith)) in let rest = count_outside (a + 1) m (omega arith) in omega arith)

  count_in_sizes : (a m : ℕ) → a ≤ size → size < a + m → count_by p (of_sizes a m) ≡ count_by p (choices size numbers)
  count_in_sizes a zero from below = absurd (omega arith)
  count_in_sizes a (suc m) from below =
      count_append p (choices a numbers) (of_sizes (a + 1) m)
      ∙ ⊎_elim
      (λ same. let rest = count_outside (a + 1) m (omega arith) in let here = ap (λ k. count_by p (choices k numbers)) same in omega arith)
      (λ other. let here = count_no p (choices a numbers) (only a other) in let rest = count_in_sizes (a + 1) m (lt_of a size from other) (omega arith) in omega arith)
      (cases_eq a size)
    where
      lt_of : (x y : ℕ) → x ≤ y → (x ≡ y → ⊥) → x + 1 ≤ y
      lt_of x y le other = ⊎_elim (λ lt. omega arith) (λ ge. absurd (other (omega arith))) (cases_lt x y)

-- only lists of the family's size are its tuples
only_size : (n : ℕ) (family : Family) → IsFamily n family → (k : ℕ) → (k ≡ family.size → ⊥) → AllByRecursion (λ t. is_tuple_of family t ≡ false) (choices k (range_with_len 0 n))
only_size n family is k other = go (choices k (range_with_len 0 n)) (choices_are_chosen k 0 n n (omega arith))
  where
    go : (ts : List (List ℕ)) → AllByRecursion (IsChosen 0 n k) ts → AllByRecursion (λ t. is_tuple_of family t ≡ false) ts
    go [] all = tt
    go (t ∷ ts) all =
        (false_from_ne_true (is_tuple_of family t) (λ has. other (sym all.0.size ∙ ((tuple_is_chosen n family.parts t (are_parts n family is) has).size ∙ is.size))), go ts all.1)

found_passes : {X : Type 0} (p : X → Bool) (xs : List X) (x : X) → find p xs ≡ Some x → p x ≡ true
found_passes p [] x found = absurd (cc found)
found_passes p (y ∷ ys) x found = ⊎_elim
    (λ yes. let e : y ≡ x = same_Some y x (sym (cond-true (p y) (Some y) (find p ys) yes) ∙ found) in subst (λ z. p z ≡ true) e yes)
    (λ no. found_passes p ys x (sym (cond-false (p y) (Some y) (find p ys) no) ∙ found))
    (cases_Bool (p y))

pub least_is_tuple : (n : ℕ) (family : Family) → IsFamily n family → is_tuple_of family (least_of family) ≡ true
least_is_tuple n family is = found_passes (is_tuple_of family) (choices family.size (range_with_len 0 n)) (least_of family) (first_of_size n family is)

-- a family has no more numbers to take than there are
size_fits : (n : ℕ) (family : Family) → IsFamily n family → family.size ≤ n
size_fits n family is =
    let chosen = tuple_is_chosen n family.parts (least_of family) (are_parts n family is) (least_is_tuple n family is) in
    omega (arith, within-few 0 n (least_of family) (omega arith) chosen.within, chosen.size, is.size)

pub some_take : (n : ℕ) (family : Family) → IsFamily n family → 1 ≤ family.size
some_take n family is = go family.parts is.some is.parts is.size
  where
    go : (parts : List Part) → 1 ≤ length parts → All (IsPart n) parts → total_take parts ≡ family.size → 1 ≤ family.size
    go [] some all size = absurd (omega arith)
    go (part ∷ parts) some all size =
        let first : IsPart n part = All-head (IsPart n) part parts all in
        omega (arith, first.some, sum_by-cons (λ (part : Part). part.take) part parts)

pub first_of_tuples : (n t : ℕ) (family : Family) → IsFamily n family → family.size ≤ t → find (is_tuple_of family) (tuples n t) ≡ Some (least_of family)
unfolding tuples
first_of_tuples n t family is le =
    find_in_sizes (is_tuple_of family) (range_with_len 0 n) family.size (only_size n family is) 1 (min t n) (some_take n family is) (omega (arith, size_fits n family is))
    ∙ first_of_size n family is

pub weight_in_tuples : (n t : ℕ) (family : Family) → IsFamily n family → family.size ≤ t → count_by (is_tuple_of family) (tuples n t) ≡ weight_of n family
unfolding tuples weight_of
weight_in_tuples n t family is le =
    count_in_sizes (is_tuple_of family) (range_with_len 0 n) family.size (only_size n family is) 1 (min t n) (some_take n family is) (omega (arith, size_fits n family is))

-- a family has no more tuples than there are
pub ways_fit : (n t : ℕ) (family : Family) → IsFamily n family → family.size ≤ t → ways family.parts 0 ≤ length (tuples n t)
ways_fit n t family is le = omega (arith, weight_is_ways n family is, weight_in_tuples n t family is le, count_by-le-length (is_tuple_of family) (tuples n t))

-- what passes stands no earlier than the first that passes
place_of_first : (p : List ℕ → Bool) (xs : List (List ℕ)) (first t : List ℕ) → find p xs ≡ Some first → p t ≡ true → position_or_len (λ y. bytes_eq y first) xs ≤ position_or_len (λ y. bytes_eq y t) xs
place_of_first p [] first t found passes = omega arith
place_of_first p (x ∷ xs) first t found passes = ⊎_elim
    (λ yes. let e : x ≡ first = same_Some x first (sym (cond-true (p x) (Some x) (find p xs) yes) ∙ found) in
    let here : bytes_eq x first ≡ true = (bytes_decides x first).1 e in
    at_front (bytes_eq x first) here (position_or_len (λ y. bytes_eq y first) xs) _)
    (λ no. let other : bytes_eq x t ≡ false = false_from_ne_true (bytes_eq x t) (λ same. true≢false (sym passes ∙ (ap p (sym ((bytes_decides x t).0 same)) ∙ no))) in
    behind (bytes_eq x first) (bytes_eq x t) other _ _ (place_of_first p xs first t (sym (cond-false (p x) (Some x) (find p xs) no) ∙ found) passes))
    (cases_Bool (p x))
  where
    at_front : (b : Bool) → b ≡ true → (n m : ℕ) → cond (not b) (1 + n) 0 ≤ m
    at_front b is n m = let e : cond (not b) (1 + n) 0 ≡ 0 = ap (λ b. cond (not b) (1 + n) 0) is in omega arith

    behind : (a b : Bool) → b ≡ false → (n m : ℕ) → n ≤ m → cond (not a) (1 + n) 0 ≤ cond (not b) (1 + m) 0
    behind true b is n m le = omega arith
    behind false b is n m le = let e : cond (not b) (1 + m) 0 ≡ 1 + m = ap (λ b. cond (not b) (1 + m) 0) is in omega arith

pub least_rank : (n t : ℕ) (family : Family) (tuple : List ℕ) → IsFamily n family → family.size ≤ t → is_tuple_of family tuple ≡ true → rank_of n t (least_of family) ≤ rank_of n t tuple
unfolding rank_of
least_rank n t family tuple is le has = place_of_first (is_tuple_of family) (tuples n t) (least_of family) tuple (first_of_tuples n t family is le) has

-- a tuple of a family is one of the tuples of at most t numbers
pub tuple_of_is_tuple : (n t : ℕ) (family : Family) (tuple : List ℕ) → IsFamily n family → family.size ≤ t → is_tuple_of family tuple ≡ true → IsTuple n t tuple × (length tuple ≡ family.size)
tuple_of_is_tuple n t family tuple is le has =
    let chosen = tuple_is_chosen n family.parts tuple (are_parts n family is) has in
    let size : length tuple ≡ family.size = chosen.size ∙ is.size in (
      record {
        ascending = within-increasing 0 n tuple chosen.within;
        below = within-below 0 n tuple chosen.within;
        some = omega (arith, some_take n family is);
        few = omega (arith, size_fits n family is);
      },
      size,
    )
