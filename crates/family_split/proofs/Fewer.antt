-- A child has fewer tuples than its family, since some tuple of the family lies wholly inside the hull.
use Rattle.std.proofs.Common.{◌≡◌, ℕ, ◌+◌, ◌-◌, ◌<◌, ◌≤◌, Bool, true, false, not, ◌&&◌, List, [], ◌∷◌, length, refl, sym, ap, ◌∙◌, subst, arith, ⊎_elim, count_by, Some, find, nat_le}
use Rattle.std.proofs.lemmas.Bool.{cases_Bool, and_parts, and_from, le-leb, cond-true, cond-false}
use Rattle.std.proofs.lemmas.List.Elements.{recursion_from_All}
use Rattle.std.proofs.lemmas.Option.{same_Some}
use Rattle.std.specs.List.{list_all, range_with_len, AllByRecursion}
use Rattle.bit_rows.specs.Sets.{is_in, members, meet, minus}
use Rattle.tuple_rank.specs.Choices.{choices}
use Rattle.probe_family.specs.declared.part.Part.{Part}
use Rattle.probe_family.specs.declared.family.Family.{Family}
use Rattle.probe_family.specs.Families.{is_tuple_of, has_enough, family_over, weight_of, IsFamily}
use Rattle.probe_family.specs.Least.{least_of}
use Rattle.probe_family.proofs.Bits.{one_if, count_cons}
use Rattle.probe_family.proofs.Rules.{are_parts}
use Rattle.probe_family.proofs.Tuples.{tuple_parts, first_of_size}
use Rattle.probe_family.proofs.AllTuples.{least_is_tuple, some_take}
use Rattle.probe_family.proofs.Over.{family_over_is, taking}
use Rattle.family_split.specs.Children.{split_parts, children_of, HasInside}
use Rattle.family_split.specs.Later.{takes_of}
use Rattle.family_split.proofs.Insides.{takes_inside}
use Rattle.family_split.proofs.SplitParts.{matches, matches_takes, parts_split, total_take-split}
use Rattle.family_split.proofs.Partition.{count_child, count_children, children_are_like, children_have, each_fails, IsLike}

-- a test that passes less passes fewer, where one that only the other passes is among the elements
module _ {X : Type 0} (p q : X → Bool) (gives : (x : X) → p x ≡ true → q x ≡ true) where
  one_less : (x : X) → one_if (p x) ≤ one_if (q x)
  one_less x = ⊎_elim
      (λ is. let a = ap one_if is in let b = ap one_if (gives x is) in omega arith)
      (λ fails. let a = ap one_if fails in omega arith)
      (cases_Bool (p x))

  count_no_more : (xs : List X) → count_by p xs ≤ count_by q xs
  count_no_more [] = omega arith
  count_no_more (x ∷ xs) = omega (arith, one_less x, count_no_more xs, count_cons p x xs, count_cons q x xs)

  count_fewer : (r : X → Bool) (xs : List X) (w : X) → find r xs ≡ Some w → p w ≡ false → q w ≡ true → count_by p xs < count_by q xs
  count_fewer r [] w found fails passes = absurd (cc found)
  count_fewer r (x ∷ xs) w found fails passes = ⊎_elim
      (λ here.
      let e : x ≡ w = same_Some x w (sym (cond-true (r x) (Some x) (find r xs) here) ∙ found) in
      let a = ap one_if (ap p e ∙ fails) in let b = ap one_if (ap q e ∙ passes) in
      omega (arith, count_no_more xs, count_cons p x xs, count_cons q x xs))
      (λ not_here.
      let rest = count_fewer r xs w (sym (cond-false (r x) (Some x) (find r xs) not_here) ∙ found) fails passes in
      omega (arith, one_less x, count_cons p x xs, count_cons q x xs))
      (cases_Bool (r x))

all_swap : {X Y : Type 0} (P : Y → X → Type 0) (xs : List X) → ((y : Y) → AllByRecursion (P y) xs) → AllByRecursion (λ x. (y : Y) → P y x) xs
all_swap P [] each = tt
all_swap P (x ∷ xs) each = ((λ y. (each y).0), all_swap P xs (λ y. (each y).1))

enough_inside : (hull : List Bool) (parts : List Part) → AllByRecursion (λ (part : Part). part.take ≤ length (members (meet part.set hull))) parts → list_all has_enough (split_parts hull parts (takes_of parts)) ≡ true
enough_inside hull [] inside = refl
enough_inside hull (part ∷ parts) inside =
    and_from (nat_le part.take (length (members (meet part.set hull)))) _ (le-leb part.take (length (members (meet part.set hull))) inside.0)
    (and_from (nat_le (part.take - part.take) (length (members (minus part.set hull)))) _ (le-leb (part.take - part.take) (length (members (minus part.set hull))) (omega arith)) (enough_inside hull parts inside.1))

module _ (n : ℕ) (family : Family) (hull : List Bool) (is : IsFamily n family) (inside : HasInside hull family) where
  abbrev inner_parts : List Part
  inner_parts = split_parts hull family.parts (takes_of family.parts)

  -- the family of the tuples wholly inside the hull
  abbrev inner : Family
  inner = record { size = family.size; bound = family.bound; parts = taking inner_parts }

  over_is : family_over family.size family.bound inner_parts ≡ inner ∷ []
  over_is = cond-true (list_all has_enough inner_parts) (inner ∷ []) [] (enough_inside hull family.parts (recursion_from_All _ family.parts inside))

  inner_is : IsFamily n inner
  inner_is =
      let all : AllByRecursion (IsFamily n) (inner ∷ []) =
      subst (AllByRecursion (IsFamily n)) over_is
      (family_over_is n family.size family.bound inner_parts (parts_split hull n family.parts (takes_of family.parts) (takes_inside family.parts) (are_parts n family is))
      (total_take-split hull family.parts (takes_of family.parts) (takes_inside family.parts) ∙ is.size) (some_take n family is) is.small) in
      all.0

  witness : List ℕ
  witness = least_of inner

  witness_is : (is_tuple_of family witness && matches hull witness family.parts (takes_of family.parts)) ≡ true
  unfolding witness
  witness_is =
      let one : one_if (is_tuple_of inner witness) + 0 ≡ one_if (is_tuple_of family witness && matches hull witness family.parts (takes_of family.parts)) =
      sym (count_cons (λ child. is_tuple_of child witness) inner []) ∙ (ap (count_by (λ child. is_tuple_of child witness)) (sym over_is) ∙ count_child hull witness n family is (takes_of family.parts) (takes_inside family.parts)) in
      let has = ap one_if (least_is_tuple n inner inner_is) in
      true_if _ (omega arith)
    where
      true_if : (b : Bool) → one_if b ≡ 1 → b ≡ true
      true_if true e = refl
      true_if false e = absurd (omega arith)

  in_no_child : AllByRecursion (λ child. is_tuple_of child witness ≡ false) (children_of family hull)
  in_no_child =
      let split = and_parts (is_tuple_of family witness) (matches hull witness family.parts (takes_of family.parts)) witness_is in
      let lies : list_all (is_in hull) witness ≡ true = sym (matches_takes hull family.parts witness (tuple_parts family.parts witness split.0).1) ∙ split.1 in
      each_fails (λ child. is_tuple_of child witness) (children_of family hull)
      (count_children hull witness n family is ∙ ap (λ b. one_if (is_tuple_of family witness && not b)) lies ∙ ap one_if (none (is_tuple_of family witness)))
    where
      none : (b : Bool) → (b && false) ≡ false
      none true = refl
      none false = refl

  lighter : (child : Family) → IsLike family child → ((t : List ℕ) → is_tuple_of child t ≡ true → is_tuple_of family t ≡ true) → is_tuple_of child witness ≡ false → weight_of n child < weight_of n family
  unfolding weight_of witness
  lighter child like gives fails =
      subst (λ k. count_by (is_tuple_of child) (choices k (range_with_len 0 n)) < weight_of n family) (sym like.0)
      (count_fewer (is_tuple_of child) (is_tuple_of family) gives (is_tuple_of inner) (choices family.size (range_with_len 0 n)) witness (first_of_size n inner inner_is) fails
      (and_parts (is_tuple_of family witness) (matches hull witness family.parts (takes_of family.parts)) witness_is).0)

  pub children_are_lighter : AllByRecursion (λ child. weight_of n child < weight_of n family) (children_of family hull)
  children_are_lighter =
      each (children_of family hull) (children_are_like family hull) (all_swap (λ t child. is_tuple_of child t ≡ true → is_tuple_of family t ≡ true) (children_of family hull) (λ t. children_have n family hull t is)) in_no_child
    where
      each : (fs : List Family) → AllByRecursion (IsLike family) fs → AllByRecursion (λ child. (t : List ℕ) → is_tuple_of child t ≡ true → is_tuple_of family t ≡ true) fs → AllByRecursion (λ child. is_tuple_of child witness ≡ false) fs → AllByRecursion (λ child. weight_of n child < weight_of n family) fs
      each [] like gives fails = tt
      each (f ∷ fs) like gives fails = (lighter f like.0 gives.0 fails.0, each fs like.1 gives.1 fails.1)
