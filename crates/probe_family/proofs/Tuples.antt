-- The tuples of parts among the ways to choose, and the least of them.
use Rattle.std.proofs.Common.{◌≡◌, ℕ, ◌+◌, ◌<◌, ◌≤◌, Bool, true, ◌&&◌, cond, List, [], ◌∷◌, refl, sym, ap, ◌∙◌, arith, ⊎_elim, Some, count_by}
use Rattle.std.proofs.lemmas.Bool.{and_parts, and_from, true≢false, or_cases}
use Rattle.std.specs.List.{find, range_with_len, list_all, AllByRecursion}
use Rattle.bit_rows.specs.Sets.{is_in}
use Rattle.bit_rows.proofs.Facts.{is_in-below}
use Rattle.tuple_rank.specs.Choices.{choices}
use Rattle.probe_family.specs.declared.part.Part.{Part}
use Rattle.probe_family.specs.declared.family.Family.{Family}
use Rattle.probe_family.specs.Families.{is_ascending, is_in_part, are_taken, is_tuple_over, is_tuple_of, total_take, weight_of, IsFamily}
use Rattle.probe_family.specs.Least.{in_order, least_of}
use Rattle.probe_family.proofs.Bits.{one_if, count_cons}
use Rattle.probe_family.proofs.Takes.{AreBelow, length-taken}
use Rattle.probe_family.proofs.Ranges.{IsChosen, ascending-within, within-ascending, choices_are_chosen}
use Rattle.probe_family.proofs.Weights.{ways, count_taken}
use Rattle.probe_family.proofs.First.{find_greedy, greedy_is_least, least_from_all}
use Rattle.probe_family.proofs.Rules.{AreParts, are_parts, enough_of}

module _ {X : Type 0} (p q : X → Bool) where
  pub count_same : (xs : List X) → AllByRecursion (λ x. p x ≡ q x) xs → count_by p xs ≡ count_by q xs
  count_same [] all = refl
  count_same (x ∷ xs) all = count_cons p x xs ∙ (ap (λ b. one_if b + count_by p xs) all.0 ∙ (ap (λ n. one_if (q x) + n) (count_same xs all.1) ∙ sym (count_cons q x xs)))

  find_same : (xs : List X) → AllByRecursion (λ x. p x ≡ q x) xs → find p xs ≡ find q xs
  find_same [] all = refl
  find_same (x ∷ xs) all = ap (λ b. cond b (Some x) (find p xs)) all.0 ∙ ap (λ o. cond (q x) (Some x) o) (find_same xs all.1)

pub tuple_parts : (parts : List Part) (t : List ℕ) → is_tuple_over parts t ≡ true → (is_ascending t ≡ true) × (are_taken parts t ≡ true)
unfolding is_tuple_over
tuple_parts parts t is = and_parts (is_ascending t) (are_taken parts t) is

pub tuple_from : (parts : List Part) (t : List ℕ) → is_ascending t ≡ true → are_taken parts t ≡ true → is_tuple_over parts t ≡ true
unfolding is_tuple_over
tuple_from parts t up taken = and_from (is_ascending t) (are_taken parts t) up taken

ascending_tuple : (parts : List Part) (t : List ℕ) → is_ascending t ≡ true → is_tuple_over parts t ≡ are_taken parts t
unfolding is_tuple_over
ascending_tuple parts t up = ap (λ b. b && are_taken parts t) up

-- among the ways to choose, the tuples are those that take from the parts
chosen_tuples : (parts : List Part) (k n : ℕ) → AllByRecursion (λ t. is_tuple_over parts t ≡ are_taken parts t) (choices k (range_with_len 0 n))
chosen_tuples parts k n = go (choices k (range_with_len 0 n)) (choices_are_chosen k 0 n n (omega arith))
  where
    go : (ts : List (List ℕ)) → AllByRecursion (IsChosen 0 n k) ts → AllByRecursion (λ t. is_tuple_over parts t ≡ are_taken parts t) ts
    go [] all = tt
    go (t ∷ ts) all = (ascending_tuple parts t (ascending-within 0 n t all.0.within), go ts all.1)

-- the numbers of a tuple are below n
numbers_below : (n : ℕ) (parts : List Part) (t : List ℕ) → AreBelow n parts → list_all (is_in_part parts) t ≡ true → AllByRecursion (λ p. p < n) t
numbers_below n parts [] below all = tt
numbers_below n parts (p ∷ t) below all =
    let split = and_parts (is_in_part parts p) (list_all (is_in_part parts) t) all in
    (in_below parts p below split.0, numbers_below n parts t below split.1)
  where
    in_below : (parts : List Part) (p : ℕ) → AreBelow n parts → is_in_part parts p ≡ true → p < n
    in_below [] p below is = absurd (true≢false (sym is))
    in_below (part ∷ parts) p below is = ⊎_elim
        (λ here. omega (arith, is_in-below part.set p here, below.0))
        (λ rest. in_below parts p below.1 rest)
        (or_cases (is_in part.set p) (is_in_part parts p) is)

-- a tuple of parts ascends below n and has as many numbers as the parts take
pub tuple_is_chosen : (n : ℕ) (parts : List Part) (t : List ℕ) → AreParts n parts → is_tuple_over parts t ≡ true → IsChosen 0 n (total_take parts) t
tuple_is_chosen n parts t are is =
    let split = tuple_parts parts t is in
    record {
      within = within-ascending 0 n t split.0 (from_zero t) (numbers_below n parts t are.below (and_parts (list_all _ parts) (list_all (is_in_part parts) t) split.1).1);
      size = length-taken t parts are.apart split.1;
    }
  where
    from_zero : (t : List ℕ) → AllByRecursion (λ p. 0 ≤ p) t
    from_zero [] = tt
    from_zero (p ∷ t) = (omega arith, from_zero t)

-- the least tuple is the first of the ways to choose that is a tuple
pub first_of_size : (n : ℕ) (family : Family) → IsFamily n family → find (is_tuple_of family) (choices family.size (range_with_len 0 n)) ≡ Some (least_of family)
unfolding least_of
first_of_size n family is =
    let are = are_parts n family is in
    find_same (is_tuple_of family) (are_taken family.parts) (choices family.size (range_with_len 0 n)) (chosen_tuples family.parts family.size n)
    ∙ (find_greedy family.size 0 n n family.parts (omega arith) are.apart are.below (enough_of n family is) is.size
    ∙ ap Some (greedy_is_least 0 n family.parts are.apart ∙ ap in_order (least_from_all n family.parts are.below)))

-- the weight is the product of the ways to take from each part
pub weight_is_ways : (n : ℕ) (family : Family) → IsFamily n family → weight_of n family ≡ ways family.parts 0
unfolding weight_of
weight_is_ways n family is =
    let are = are_parts n family is in
    count_same (is_tuple_of family) (are_taken family.parts) (choices family.size (range_with_len 0 n)) (chosen_tuples family.parts family.size n)
    ∙ count_taken family.size 0 n n family.parts (omega arith) are.apart are.below is.size
