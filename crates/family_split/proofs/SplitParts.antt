-- Parts split by a hull: their tuples are those of the parts that have so many numbers inside.
use Rattle.std.proofs.Common.{◌≡◌, ℕ, ◌+◌, ◌-◌, Bool, true, false, not, ◌&&◌, ◌||◌, ◌==◌, List, [], ◌∷◌, length, refl, sym, ap, ◌∙◌, arith, ⊎_elim}
use Rattle.std.proofs.lemmas.Bool.{cases_Bool, and_parts, and_from, or_from, eq-eqb, eqb-true, true≢false, true_from_ne_false}
use Rattle.std.proofs.lemmas.List.Sums.{sum_by-cons}
use Rattle.std.specs.List.{list_all}
use Rattle.bit_rows.specs.Sets.{is_in, meet, minus}
use Rattle.bit_rows.proofs.Facts.{is_in-meet, is_in-minus, length-set_of}
use Rattle.probe_family.specs.declared.part.Part.{Part}
use Rattle.probe_family.specs.Families.{is_ascending, count_in, is_taken_from, is_in_part, are_taken, is_tuple_over, total_take, part_of}
use Rattle.probe_family.proofs.Bits.{one_if, same_tests, count_cons}
use Rattle.probe_family.proofs.Takes.{AreApart, AreBelow}
use Rattle.probe_family.proofs.Rules.{AreParts}
use Rattle.family_split.specs.Children.{split_parts}
use Rattle.family_split.specs.Later.{AreInside, takes_of}

module _ (hull : List Bool) where
  -- how many of the numbers are in the part's set and inside the hull
  abbrev pub count_inside : Part → List ℕ → ℕ
  count_inside part t = count_in (meet part.set hull) t

  abbrev pub count_outside : Part → List ℕ → ℕ
  count_outside part t = count_in (minus part.set hull) t

  -- so many of each part are inside
  abbrev pub matches : List ℕ → List Part → List ℕ → Bool
  matches t (part ∷ parts) (j ∷ js) = count_inside part t == j && matches t parts js
  matches t parts js = true

  pub count_sides : (part : Part) (t : List ℕ) → count_inside part t + count_outside part t ≡ count_in part.set t
  count_sides part [] = refl
  count_sides part (p ∷ t) =
      by_case (is_in part.set p) (is_in hull p) (count_inside part t) (count_outside part t) (count_in part.set t)
      (count_cons (is_in (meet part.set hull)) p t ∙ ap (λ b. one_if b + count_inside part t) (is_in-meet part.set hull p))
      (count_cons (is_in (minus part.set hull)) p t ∙ ap (λ b. one_if b + count_outside part t) (is_in-minus part.set hull p))
      (count_cons (is_in part.set) p t) (count_sides part t)
    where
      by_case : (a h : Bool) (i o s : ℕ) → {I O S : ℕ} → I ≡ one_if (a && h) + i → O ≡ one_if (a && not h) + o → S ≡ one_if a + s → i + o ≡ s → I + O ≡ S
      by_case true true i o s e f g r = omega arith
      by_case true false i o s e f g r = omega arith
      by_case false h i o s e f g r = omega arith

  in_split : (parts : List Part) (js : List ℕ) → AreInside parts js → (p : ℕ) → is_in_part (split_parts hull parts js) p ≡ is_in_part parts p
  in_split [] [] inside p = refl
  in_split [] (j ∷ js) inside p = absurd inside
  in_split (part ∷ parts) [] inside p = absurd inside
  in_split (part ∷ parts) (j ∷ js) inside p =
      ap (λ b. b || (is_in (minus part.set hull) p || is_in_part (split_parts hull parts js) p)) (is_in-meet part.set hull p)
      ∙ (ap (λ b. (is_in part.set p && is_in hull p) || (b || is_in_part (split_parts hull parts js) p)) (is_in-minus part.set hull p)
      ∙ (by_case (is_in part.set p) (is_in hull p) (is_in_part (split_parts hull parts js) p)
      ∙ ap (λ b. is_in part.set p || b) (in_split parts js inside.1 p)))
    where
      by_case : (a h r : Bool) → ((a && h) || ((a && not h) || r)) ≡ (a || r)
      by_case true true r = refl
      by_case true false r = refl
      by_case false h r = refl

  all_in_split : (parts : List Part) (js : List ℕ) → AreInside parts js → (t : List ℕ) → list_all (is_in_part (split_parts hull parts js)) t ≡ list_all (is_in_part parts) t
  all_in_split parts js inside [] = refl
  all_in_split parts js inside (p ∷ t) =
      ap (λ b. b && list_all (is_in_part (split_parts hull parts js)) t) (in_split parts js inside p)
      ∙ ap (λ b. is_in_part parts p && b) (all_in_split parts js inside t)

  taken_split : (parts : List Part) (js : List ℕ) → AreInside parts js → (t : List ℕ) → list_all (λ part. is_taken_from part t) (split_parts hull parts js) ≡ (list_all (λ part. is_taken_from part t) parts && matches t parts js)
  taken_split [] [] inside t = refl
  taken_split [] (j ∷ js) inside t = absurd inside
  taken_split (part ∷ parts) [] inside t = absurd inside
  taken_split (part ∷ parts) (j ∷ js) inside t =
      ap (λ b. count_inside part t == j && (count_outside part t == part.take - j && b)) (taken_split parts js inside.1 t)
      ∙ by_case (count_inside part t == j) (count_outside part t == part.take - j) (count_in part.set t == part.take) _ (matches t parts js)
      (λ a b. let e = eqb-true _ _ a in let f = eqb-true _ _ b in eq-eqb _ _ (omega (arith, count_sides part t, inside.0)))
      (λ a s. let e = eqb-true _ _ a in let f = eqb-true _ _ s in eq-eqb _ _ (omega (arith, count_sides part t, inside.0)))
    where
      by_case : (a b s l m : Bool) → (a ≡ true → b ≡ true → s ≡ true) → (a ≡ true → s ≡ true → b ≡ true) → (a && (b && (l && m))) ≡ ((s && l) && (a && m))
      by_case true b s l m f g = ap (λ x. x && (l && m)) (same_tests b s (f refl) (g refl)) ∙ shuffle s l m
        where
          shuffle : (s l m : Bool) → (s && (l && m)) ≡ ((s && l) && m)
          shuffle true l m = refl
          shuffle false l m = refl
      by_case false b s l m f g = none (s && l)
        where
          none : (x : Bool) → false ≡ (x && false)
          none true = refl
          none false = refl

  -- a tuple of the split parts is one of the parts with so many numbers inside
  pub over_split : (parts : List Part) (js : List ℕ) → AreInside parts js → (t : List ℕ) → is_tuple_over (split_parts hull parts js) t ≡ (is_tuple_over parts t && matches t parts js)
  unfolding is_tuple_over
  over_split parts js inside t =
      ap (λ b. is_ascending t && (b && list_all (is_in_part (split_parts hull parts js)) t)) (taken_split parts js inside t)
      ∙ (ap (λ b. is_ascending t && ((list_all (λ part. is_taken_from part t) parts && matches t parts js) && b)) (all_in_split parts js inside t)
      ∙ by_case (is_ascending t) (list_all (λ part. is_taken_from part t) parts) (matches t parts js) (list_all (is_in_part parts) t))
    where
      by_case : (a l m i : Bool) → (a && ((l && m) && i)) ≡ ((a && (l && i)) && m)
      by_case false l m i = refl
      by_case true false m i = refl
      by_case true true true true = refl
      by_case true true true false = refl
      by_case true true false true = refl
      by_case true true false false = refl

  apart_split : (parts : List Part) (js : List ℕ) → AreInside parts js → AreApart parts → AreApart (split_parts hull parts js)
  apart_split [] [] inside apart = tt
  apart_split [] (j ∷ js) inside apart = absurd inside
  apart_split (part ∷ parts) [] inside apart = absurd inside
  apart_split (part ∷ parts) (j ∷ js) inside apart = (
    (λ p is.
        let here = and_parts (is_in part.set p) (is_in hull p) (sym (is_in-meet part.set hull p) ∙ is) in
        or_from (is_in (minus part.set hull) p) _ (is_in-minus part.set hull p ∙ (ap (λ b. is_in part.set p && not b) here.1 ∙ no_more (is_in part.set p))) (in_split parts js inside.1 p ∙ apart.0 p here.0)),
    (
      (λ p is.
          let here = and_parts (is_in part.set p) (not (is_in hull p)) (sym (is_in-minus part.set hull p) ∙ is) in
          in_split parts js inside.1 p ∙ apart.0 p here.0),
      apart_split parts js inside.1 apart.1,
    ),
  )
    where
      no_more : (a : Bool) → (a && false) ≡ false
      no_more true = refl
      no_more false = refl

  below_split : (n : ℕ) (parts : List Part) (js : List ℕ) → AreInside parts js → AreBelow n parts → AreBelow n (split_parts hull parts js)
  below_split n [] [] inside below = tt
  below_split n [] (j ∷ js) inside below = absurd inside
  below_split n (part ∷ parts) [] inside below = absurd inside
  below_split n (part ∷ parts) (j ∷ js) inside below = (
    length-set_of (length part.set) (λ i. is_in part.set i && is_in hull i) ∙ below.0,
    (length-set_of (length part.set) (λ i. is_in part.set i && not (is_in hull i)) ∙ below.0, below_split n parts js inside.1 below.1),
  )

  pub parts_split : (n : ℕ) (parts : List Part) (js : List ℕ) → AreInside parts js → AreParts n parts → AreParts n (split_parts hull parts js)
  parts_split n parts js inside are = record { apart = apart_split parts js inside are.apart; below = below_split n parts js inside are.below }

  pub total_take-split : (parts : List Part) (js : List ℕ) → AreInside parts js → total_take (split_parts hull parts js) ≡ total_take parts
  total_take-split [] [] inside = refl
  total_take-split [] (j ∷ js) inside = absurd inside
  total_take-split (part ∷ parts) [] inside = absurd inside
  total_take-split (part ∷ parts) (j ∷ js) inside =
      omega (
        arith,
        inside.0,
        total_take-split parts js inside.1,
        sum_by-cons (λ (part : Part). part.take) part parts,
        sum_by-cons (λ (part : Part). part.take) (part_of j (meet part.set hull)) (part_of (part.take - j) (minus part.set hull) ∷ split_parts hull parts js),
        sum_by-cons (λ (part : Part). part.take) (part_of (part.take - j) (minus part.set hull)) (split_parts hull parts js),
      )

  -- ---- all takes inside

  inside_counts : (part : Part) (t : List ℕ) → list_all (is_in hull) t ≡ true → count_inside part t ≡ count_in part.set t
  inside_counts part [] all = refl
  inside_counts part (p ∷ t) all =
      let split = and_parts (is_in hull p) (list_all (is_in hull) t) all in
      count_cons (is_in (meet part.set hull)) p t
      ∙ (ap (λ b. one_if b + count_inside part t) (is_in-meet part.set hull p ∙ (ap (λ b. is_in part.set p && b) split.0 ∙ and_true (is_in part.set p)))
      ∙ (ap (λ n. one_if (is_in part.set p) + n) (inside_counts part t split.1) ∙ sym (count_cons (is_in part.set) p t)))
    where
      and_true : (a : Bool) → (a && true) ≡ a
      and_true true = refl
      and_true false = refl

  -- no number of the list is in a part's set and outside the hull
  abbrev NoneOutside : List Part → List ℕ → Type 0
  NoneOutside [] t = Unit {0}
  NoneOutside (part ∷ parts) t = (count_outside part t ≡ 0) × NoneOutside parts t

  none_outside-tail : (parts : List Part) (p : ℕ) (t : List ℕ) → NoneOutside parts (p ∷ t) → NoneOutside parts t
  none_outside-tail [] p t none = tt
  none_outside-tail (part ∷ parts) p t none =
      (omega (arith, none.0, count_cons (is_in (minus part.set hull)) p t), none_outside-tail parts p t none.1)

  inside_from : (parts : List Part) (p : ℕ) (t : List ℕ) → NoneOutside parts (p ∷ t) → is_in_part parts p ≡ true → is_in hull p ≡ true
  inside_from [] p t none is = absurd (true≢false (sym is))
  inside_from (part ∷ parts) p t none is = true_from_ne_false (is_in hull p) (λ out. ⊎_elim
      (λ here.
      let outside : is_in (minus part.set hull) p ≡ true = is_in-minus part.set hull p ∙ (ap (λ b. b && not (is_in hull p)) here ∙ ap not out) in
      let one = ap (λ b. one_if b + count_outside part t) outside in
      omega (arith, none.0, count_cons (is_in (minus part.set hull)) p t, one))
      (λ not_here.
      let rest = inside_from parts p t none.1 (sym (ap (λ b. b || is_in_part parts p) not_here) ∙ is) in true≢false (sym rest ∙ out))
      (cases_Bool (is_in part.set p)))

  all_inside_from : (parts : List Part) (t : List ℕ) → NoneOutside parts t → list_all (is_in_part parts) t ≡ true → list_all (is_in hull) t ≡ true
  all_inside_from parts [] none all = refl
  all_inside_from parts (p ∷ t) none all =
      let split = and_parts (is_in_part parts p) (list_all (is_in_part parts) t) all in
      and_from (is_in hull p) (list_all (is_in hull) t) (inside_from parts p t none split.0) (all_inside_from parts t (none_outside-tail parts p t none) split.1)

  none_outside-from : (parts : List Part) (t : List ℕ) → list_all (λ part. is_taken_from part t) parts ≡ true → matches t parts (takes_of parts) ≡ true → NoneOutside parts t
  none_outside-from [] t taken match = tt
  none_outside-from (part ∷ parts) t taken match =
      let split = and_parts (count_in part.set t == part.take) (list_all (λ part. is_taken_from part t) parts) taken in
      let pair = and_parts (count_inside part t == part.take) (matches t parts (takes_of parts)) match in
      let e = eqb-true _ _ split.0 in let f = eqb-true _ _ pair.0 in
      (omega (arith, count_sides part t), none_outside-from parts t split.1 pair.1)

  matches_from : (parts : List Part) (t : List ℕ) → list_all (λ part. is_taken_from part t) parts ≡ true → list_all (is_in hull) t ≡ true → matches t parts (takes_of parts) ≡ true
  matches_from [] t taken all = refl
  matches_from (part ∷ parts) t taken all =
      let split = and_parts (count_in part.set t == part.take) (list_all (λ part. is_taken_from part t) parts) taken in
      let e = eqb-true _ _ split.0 in
      and_from (count_inside part t == part.take) (matches t parts (takes_of parts)) (eq-eqb (count_inside part t) part.take (inside_counts part t all ∙ e)) (matches_from parts t split.1 all)

  -- a tuple of the parts has all takes inside exactly where it lies wholly inside
  pub matches_takes : (parts : List Part) (t : List ℕ) → are_taken parts t ≡ true → matches t parts (takes_of parts) ≡ list_all (is_in hull) t
  matches_takes parts t taken =
      let split = and_parts (list_all (λ part. is_taken_from part t) parts) (list_all (is_in_part parts) t) taken in
      same_tests _ _
      (λ match. all_inside_from parts t (none_outside-from parts t split.0 match) split.1)
      (λ all. matches_from parts t split.0 all)
