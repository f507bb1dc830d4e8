-- Each tuple of a family lies wholly inside the hull or in exactly one child.
use Rattle.std.proofs.Common.{◌≡◌, ℕ, zero, suc, ◌+◌, ◌<◌, ◌≤◌, Bool, true, false, not, ◌&&◌, ◌==◌, List, [], ◌∷◌, map, refl, sym, ap, ◌∙◌, subst, arith, ⊎_elim, count_by, nat_le}
use Rattle.std.proofs.lemmas.Bool.{cases_Bool, cases_eq, cases_lt, and_parts, eq-eqb, eqb-true, ne_eqb, true≢false, false_from_ne_true, le-leb, lt-leb}
use Rattle.std.specs.List.{list_all, flat_map, AllByRecursion}
use Rattle.bit_rows.specs.Sets.{is_in}
use Rattle.probe_family.specs.declared.part.Part.{Part}
use Rattle.probe_family.specs.declared.family.Family.{Family}
use Rattle.probe_family.specs.Families.{count_in, is_taken_from, is_in_part, is_tuple_of, family_over, IsFamily}
use Rattle.probe_family.proofs.Bits.{one_if, count_cons, count_append, count_map, count_none}
use Rattle.probe_family.proofs.Rules.{are_parts}
use Rattle.probe_family.proofs.Ranges.{append_All, weaken_All}
use Rattle.probe_family.proofs.Tuples.{tuple_parts}
use Rattle.probe_family.proofs.AllTuples.{some_take}
use Rattle.probe_family.proofs.Over.{count_over, each_over, family_over_is}
use Rattle.family_split.specs.Children.{down_from, insides, split_parts, children_of}
use Rattle.family_split.specs.Later.{AreInside, takes_of, later}
use Rattle.family_split.proofs.Insides.{insides_are, others_are_later, later_inside}
use Rattle.family_split.proofs.SplitParts.{count_inside, count_sides, matches, matches_takes, over_split, parts_split, total_take-split}

-- counts over what comes from each of a list, where each gives at most one
count_flat : {X Y : Type 0} (p : Y → Bool) (g : X → List Y) (q : X → Bool) (xs : List X) → AllByRecursion (λ x. count_by p (g x) ≡ one_if (q x)) xs → count_by p (flat_map g xs) ≡ count_by q xs
count_flat p g q [] all = refl
count_flat p g q (x ∷ xs) all =
    count_append p (g x) (flat_map g xs) ∙ (let here = all.0 in let rest = count_flat p g q xs all.1 in let e = count_cons q x xs in omega arith)

each_flat : {X Y : Type 0} (P : Y → Type 0) (g : X → List Y) (xs : List X) → AllByRecursion (λ x. AllByRecursion P (g x)) xs → AllByRecursion P (flat_map g xs)
each_flat P g [] all = tt
each_flat P g (x ∷ xs) all = append_All P (g x) (flat_map g xs) all.0 (each_flat P g xs all.1)

-- counts over what comes from a number and all lesser ones, where just one of them gives one
count_down : {Y : Type 0} (p : Y → Bool) (g : ℕ → List Y) (a : ℕ) → ((i : ℕ) → count_by p (g i) ≡ one_if (a == i)) → (n : ℕ) → count_by p (flat_map g (down_from n)) ≡ one_if (nat_le a n)
count_down p g a each zero =
    count_append p (g 0) [] ∙ (let e = each 0 in ⊎_elim
    (λ same. let f = ap one_if (eq-eqb a 0 same) in let h = ap one_if (le-leb a 0 (omega arith)) in omega arith)
    (λ other. let f = ap one_if (ne_eqb a 0 other) in let h = ap one_if (lt-leb a 0 (above a 0 (omega arith) (λ is. other (sym is)))) in omega arith)
    (cases_eq a 0))
  where
    above : (x y : ℕ) → y ≤ x → (y ≡ x → ⊥) → y < x
    above x y le other = ⊎_elim (λ lt. lt) (λ ge. absurd (other (omega arith))) (cases_lt y x)
count_down p g a each (suc n) =
    count_append p (g (suc n)) (flat_map g (down_from n)) ∙ (let e = each (suc n) in let rest = count_down p g a each n in ⊎_elim
    (λ below. let f = ap one_if (ne_eqb a (suc n) (λ is. omega arith)) in let h = ap one_if (le-leb a (suc n) (omega arith)) in let k = ap one_if (le-leb a n (omega arith)) in omega arith)
    (λ from. ⊎_elim
    (λ same. let f = ap one_if (eq-eqb a (suc n) same) in let h = ap one_if (le-leb a (suc n) (omega arith)) in let k = ap one_if (lt-leb a n (omega arith)) in omega arith)
    (λ other. let l = above a (suc n) from (λ is. other (sym is)) in
    let f = ap one_if (ne_eqb a (suc n) other) in let h = ap one_if (lt-leb a (suc n) l) in let k = ap one_if (lt-leb a n (omega arith)) in omega arith)
    (cases_eq a (suc n)))
    (cases_lt a (suc n)))
  where
    above : (x y : ℕ) → y ≤ x → (y ≡ x → ⊥) → y < x
    above x y le other = ⊎_elim (λ lt. lt) (λ ge. absurd (other (omega arith))) (cases_lt y x)

module _ (hull : List Bool) (t : List ℕ) where
  -- no part has more numbers inside than it takes
  abbrev FitInside : List Part → Type 0
  FitInside [] = Unit {0}
  FitInside (part ∷ parts) = (count_inside hull part t ≤ part.take) × FitInside parts

  fit_from : (parts : List Part) → list_all (λ part. is_taken_from part t) parts ≡ true → FitInside parts
  fit_from [] taken = tt
  fit_from (part ∷ parts) taken =
      let split = and_parts (count_in part.set t == part.take) (list_all (λ part. is_taken_from part t) parts) taken in
      let e = eqb-true (count_in part.set t) part.take split.0 in
      (omega (arith, count_sides hull part t), fit_from parts split.1)

  -- of the lists with this first number one fits, if the number is right
  count_first : (part : Part) (parts : List Part) → count_by (matches hull t parts) (insides parts) ≡ 1 → (i : ℕ) → count_by (matches hull t (part ∷ parts)) (map (λ is. i ∷ is) (insides parts)) ≡ one_if (count_inside hull part t == i)
  count_first part parts one i =
      count_map (matches hull t (part ∷ parts)) (λ is. i ∷ is) (insides parts) ∙ ⊎_elim
      (λ same. ap (λ b. count_by (λ is. b && matches hull t parts is) (insides parts)) same ∙ (one ∙ ap one_if (sym same)))
      (λ other. ap (λ b. count_by (λ is. b && matches hull t parts is) (insides parts)) other ∙ (count_none (λ is. false) (λ is. refl) (insides parts) ∙ ap one_if (sym other)))
      (cases_Bool (count_inside hull part t == i))

  -- of all lists exactly one says how many numbers lie inside
  count_insides : (parts : List Part) → FitInside parts → count_by (matches hull t parts) (insides parts) ≡ 1
  count_insides [] fit = refl
  count_insides (part ∷ parts) fit =
      count_down (matches hull t (part ∷ parts)) (λ i. map (λ is. i ∷ is) (insides parts)) (count_inside hull part t) (count_first part parts (count_insides parts fit.1)) part.take
      ∙ ap one_if (le-leb (count_inside hull part t) part.take fit.0)

  module _ (n : ℕ) (family : Family) (is_family : IsFamily n family) where
    abbrev child_over : List ℕ → List Family
    child_over js = family_over family.size family.bound (split_parts hull family.parts js)

    -- how often the tuple is in the child for a list
    pub count_child : (js : List ℕ) → AreInside family.parts js → count_by (λ child. is_tuple_of child t) (child_over js) ≡ one_if (is_tuple_of family t && matches hull t family.parts js)
    count_child js inside =
        count_over n family.size family.bound (split_parts hull family.parts js) t (parts_split hull n family.parts js inside (are_parts n family is_family))
        ∙ ap one_if (over_split hull family.parts js inside t)

    count_all : count_by (λ child. is_tuple_of child t) (children_of family hull) ≡ count_by (λ js. is_tuple_of family t && matches hull t family.parts js) (later family.parts (takes_of family.parts))
    unfolding children_of
    count_all =
        ap (λ l. count_by (λ child. is_tuple_of child t) (flat_map child_over l)) (others_are_later family.parts)
        ∙ count_flat (λ child. is_tuple_of child t) child_over (λ js. is_tuple_of family t && matches hull t family.parts js) (later family.parts (takes_of family.parts))
        (weaken_All (AreInside family.parts) (λ js. count_by (λ child. is_tuple_of child t) (child_over js) ≡ one_if (is_tuple_of family t && matches hull t family.parts js)) count_child (later family.parts (takes_of family.parts)) (later_inside family.parts))

    -- a tuple of the family is in one child where it does not lie wholly inside the hull, and what is no tuple of it is in none
    pub count_children : count_by (λ child. is_tuple_of child t) (children_of family hull) ≡ one_if (is_tuple_of family t && not (list_all (is_in hull) t))
    count_children = count_all ∙ ⊎_elim
        (λ has.
        let taken = (tuple_parts family.parts t has).1 in
        let all : count_by (matches hull t family.parts) (insides family.parts) ≡ 1 =
        count_insides family.parts (fit_from family.parts (and_parts (list_all (λ part. is_taken_from part t) family.parts) (list_all (is_in_part family.parts) t) taken).0) in
        let first : one_if (matches hull t family.parts (takes_of family.parts)) ≡ one_if (list_all (is_in hull) t) = ap one_if (matches_takes hull family.parts t taken) in
        let both : count_by (matches hull t family.parts) (insides family.parts) ≡ one_if (matches hull t family.parts (takes_of family.parts)) + count_by (matches hull t family.parts) (later family.parts (takes_of family.parts)) =
        ap (count_by (matches hull t family.parts)) (insides_are family.parts) ∙ count_cons (matches hull t family.parts) (takes_of family.parts) (later family.parts (takes_of family.parts)) in
        ap (λ b. count_by (λ js. b && matches hull t family.parts js) (later family.parts (takes_of family.parts))) has
        ∙ (rest_of (list_all (is_in hull) t) _ (omega arith) ∙ ap (λ b. one_if (b && not (list_all (is_in hull) t))) (sym has)))
        (λ has_not.
        ap (λ b. count_by (λ js. b && matches hull t family.parts js) (later family.parts (takes_of family.parts))) has_not
        ∙ (count_none (λ js. false) (λ js. refl) (later family.parts (takes_of family.parts)) ∙ ap (λ b. one_if (b && not (list_all (is_in hull) t))) (sym has_not)))
        (cases_Bool (is_tuple_of family t))
      where
        rest_of : (b : Bool) (m : ℕ) → one_if b + m ≡ 1 → m ≡ one_if (not b)
        rest_of true m e = omega arith
        rest_of false m e = omega arith

-- what holds of the family over each list's parts holds of each child
each_child : (P : Family → Type 0) (family : Family) (hull : List Bool) → ((js : List ℕ) → AreInside family.parts js → AllByRecursion P (family_over family.size family.bound (split_parts hull family.parts js))) → AllByRecursion P (children_of family hull)
unfolding children_of
each_child P family hull each =
    subst (λ l. AllByRecursion P (flat_map (λ js. family_over family.size family.bound (split_parts hull family.parts js)) l)) (sym (others_are_later family.parts))
    (each_flat P (λ js. family_over family.size family.bound (split_parts hull family.parts js)) (later family.parts (takes_of family.parts))
    (weaken_All (AreInside family.parts) (λ js. AllByRecursion P (family_over family.size family.bound (split_parts hull family.parts js))) each (later family.parts (takes_of family.parts)) (later_inside family.parts)))

pub children_are : (n : ℕ) (family : Family) (hull : List Bool) → IsFamily n family → AllByRecursion (IsFamily n) (children_of family hull)
children_are n family hull is = each_child (IsFamily n) family hull (λ js inside.
    family_over_is n family.size family.bound (split_parts hull family.parts js) (parts_split hull n family.parts js inside (are_parts n family is))
    (total_take-split hull family.parts js inside ∙ is.size) (some_take n family is) is.small)

abbrev pub IsLike : Family → Family → Type 0
IsLike family child = (child.size ≡ family.size) × (child.bound ≡ family.bound)

pub children_are_like : (family : Family) (hull : List Bool) → AllByRecursion (IsLike family) (children_of family hull)
children_are_like family hull = each_child (IsLike family) family hull (λ js inside. each_over (IsLike family) family.size family.bound (split_parts hull family.parts js) (λ enough. (refl, refl)))

-- where none of a list passes, each fails
pub each_fails : (p : Family → Bool) (fs : List Family) → count_by p fs ≡ 0 → AllByRecursion (λ f. p f ≡ false) fs
each_fails p [] none = tt
each_fails p (f ∷ fs) none =
    let e = count_cons p f fs in
    (false_from_ne_true (p f) (λ is. let one = ap one_if is in omega arith), each_fails p fs (omega arith))

-- the children have no other tuples
pub children_have : (n : ℕ) (family : Family) (hull : List Bool) (t : List ℕ) → IsFamily n family → AllByRecursion (λ child. is_tuple_of child t ≡ true → is_tuple_of family t ≡ true) (children_of family hull)
children_have n family hull t is = ⊎_elim
    (λ has. weaken_All (λ f. Unit {0}) (λ child. is_tuple_of child t ≡ true → is_tuple_of family t ≡ true) (λ child u is'. has) (children_of family hull) (all_unit (children_of family hull)))
    (λ has_not. weaken_All (λ child. is_tuple_of child t ≡ false) (λ child. is_tuple_of child t ≡ true → is_tuple_of family t ≡ true) (λ child no is'. absurd (true≢false (sym is' ∙ no))) (children_of family hull)
    (each_fails (λ child. is_tuple_of child t) (children_of family hull) (count_children hull t n family is ∙ ap (λ b. one_if (b && not (list_all (is_in hull) t))) has_not)))
    (cases_Bool (is_tuple_of family t))
  where
    all_unit : (fs : List Family) → AllByRecursion (λ f. Unit {0}) fs
    all_unit [] = tt
    all_unit (f ∷ fs) = (tt, all_unit fs)
