-- A family made over parts has the tuples of these parts, and keeps the rules.
use Rattle.std.proofs.Common.{◌≡◌, ℕ, ◌+◌, ◌-◌, ◌≤◌, Bool, true, false, ◌&&◌, ◌==◌, cond, List, [], ◌∷◌, length, filter, refl, sym, ap, ◌∙◌, arith, ⊎_elim, AllPairs, count_by}
use Rattle.std.proofs.lemmas.Bool.{cases_Bool, and_parts, and_from, and_right, or_from, or_parts, eq-eqb, eqb-true, le-ltb, le-leb, leb-true, ltb-true, ltb-false, true≢false, cond-true, cond-false, false_from_ne_true}
use Rattle.std.proofs.lemmas.List.Elements.{All-from_recursion}
use Rattle.std.proofs.lemmas.List.Kept.{AllPairs-cons}
use Rattle.std.proofs.lemmas.List.Sums.{sum_by-cons}
use Rattle.std.specs.List.{list_all, AllByRecursion}
use Rattle.bit_rows.specs.Sets.{is_in, members}
use Rattle.probe_family.specs.declared.part.Part.{Part}
use Rattle.probe_family.specs.declared.family.Family.{Family}
use Rattle.probe_family.specs.Families.{count_in, is_taken_from, is_in_part, are_taken, is_tuple_over, is_tuple_of, is_ascending, total_take, takes_some, has_enough, family_over, AreDisjoint, IsPart, IsFamily}
use Rattle.probe_family.proofs.Bits.{one_if, count_cons}
use Rattle.probe_family.proofs.Members.{length-members}
use Rattle.probe_family.proofs.Takes.{AreApart, AreApart-less, AreBelow, less, less_one, may_give, may_take, may_take_first, may_take_rest, are_taken-cons}
use Rattle.probe_family.proofs.Ranges.{IsChosen, count_in_fits}
use Rattle.probe_family.proofs.Rules.{AreParts}
use Rattle.probe_family.proofs.Tuples.{tuple_is_chosen, tuple_parts}

-- the parts that take something
abbrev pub taking : List Part → List Part
taking parts = filter takes_some parts

not_in_taking : (c : ℕ) (parts : List Part) → is_in_part parts c ≡ false → is_in_part (taking parts) c ≡ false
not_in_taking c [] none = refl
not_in_taking c (part ∷ parts) none =
    let split = or_parts (is_in part.set c) (is_in_part parts c) none in by_case (takes_some part) split.0 (not_in_taking c parts split.1)
  where
    by_case : (b : Bool) → is_in part.set c ≡ false → is_in_part (taking parts) c ≡ false → is_in_part (cond b (part ∷ taking parts) (taking parts)) c ≡ false
    by_case true here rest = or_from (is_in part.set c) (is_in_part (taking parts) c) here rest
    by_case false here rest = rest

AreApart-taking : (parts : List Part) → AreApart parts → AreApart (taking parts)
AreApart-taking [] apart = tt
AreApart-taking (part ∷ parts) apart = by_case (takes_some part) (AreApart-taking parts apart.1)
  where
    by_case : (b : Bool) → AreApart (taking parts) → AreApart (cond b (part ∷ taking parts) (taking parts))
    by_case true rest = ((λ p is. not_in_taking p parts (apart.0 p is)), rest)
    by_case false rest = rest

nothing_taken : (parts : List Part) → list_all (λ part. is_taken_from part []) (taking parts) ≡ list_all (λ part. is_taken_from part []) parts
nothing_taken [] = refl
nothing_taken (part ∷ parts) = ⊎_elim
    (λ some. ap (list_all (λ part. is_taken_from part [])) (cond-true (takes_some part) (part ∷ taking parts) (taking parts) some)
    ∙ ap (λ b. (0 == part.take) && b) (nothing_taken parts))
    (λ none. ap (list_all (λ part. is_taken_from part [])) (cond-false (takes_some part) (part ∷ taking parts) (taking parts) none)
    ∙ (nothing_taken parts
    ∙ ap (λ b. b && list_all (λ part. is_taken_from part []) parts) (sym (eq-eqb 0 part.take (let e = ltb-false 0 part.take none in omega arith)))))
    (cases_Bool (takes_some part))

none_may : (parts : List Part) (c : ℕ) → is_in_part parts c ≡ false → may_take parts c ≡ false
none_may parts c none = and_right (list_all (may_give c) parts) (is_in_part parts c) none

may_take-taking : (c : ℕ) (parts : List Part) → AreApart parts → may_take (taking parts) c ≡ may_take parts c
may_take-taking c [] apart = refl
may_take-taking c (part ∷ parts) apart = ⊎_elim
    (λ some. ap (λ l. may_take l c) (cond-true (takes_some part) (part ∷ taking parts) (taking parts) some) ∙ ⊎_elim
    (λ here. let none = apart.0 c here in may_take_first part (taking parts) c here (not_in_taking c parts none) ∙ sym (may_take_first part parts c here none))
    (λ not_here. may_take_rest part (taking parts) c not_here ∙ (may_take-taking c parts apart.1 ∙ sym (may_take_rest part parts c not_here)))
    (cases_Bool (is_in part.set c)))
    (λ nothing. ap (λ l. may_take l c) (cond-false (takes_some part) (part ∷ taking parts) (taking parts) nothing) ∙ ⊎_elim
    (λ here. let none = apart.0 c here in none_may (taking parts) c (not_in_taking c parts none) ∙ sym (may_take_first part parts c here none ∙ nothing))
    (λ not_here. may_take-taking c parts apart.1 ∙ sym (may_take_rest part parts c not_here))
    (cases_Bool (is_in part.set c)))
    (cases_Bool (takes_some part))

taking-less : (c : ℕ) (parts : List Part) → taking (less c (taking parts)) ≡ taking (less c parts)
taking-less c [] = refl
taking-less c (part ∷ parts) = ⊎_elim
    (λ some. ap (λ l. taking (less c l)) (cond-true (takes_some part) (part ∷ taking parts) (taking parts) some)
    ∙ ap (λ l. cond (takes_some (less_one c part)) (less_one c part ∷ l) l) (taking-less c parts))
    (λ nothing. ap (λ l. taking (less c l)) (cond-false (takes_some part) (part ∷ taking parts) (taking parts) nothing)
    ∙ (taking-less c parts
    ∙ sym (cond-false (takes_some (less_one c part)) (less_one c part ∷ taking (less c parts)) (taking (less c parts)) (le-ltb 0 (part.take - one_if (is_in part.set c)) (let e = ltb-false 0 part.take nothing in omega arith)))))
    (cases_Bool (takes_some part))

-- parts that take nothing make no difference
pub are_taken-taking : (t : List ℕ) (parts : List Part) → AreApart parts → are_taken (taking parts) t ≡ are_taken parts t
are_taken-taking [] parts apart = ap (λ b. b && true) (nothing_taken parts)
are_taken-taking (c ∷ t) parts apart =
    are_taken-cons (taking parts) c t
    ∙ (ap (λ b. b && are_taken (less c (taking parts)) t) (may_take-taking c parts apart)
    ∙ (ap (λ b. may_take parts c && b)
    (sym (are_taken-taking t (less c (taking parts)) (AreApart-less c (taking parts) (AreApart-taking parts apart)))
    ∙ (ap (λ l. are_taken l t) (taking-less c parts)
    ∙ are_taken-taking t (less c parts) (AreApart-less c parts apart)))
    ∙ sym (are_taken-cons parts c t)))

tuple_over-taking : (parts : List Part) (t : List ℕ) → AreApart parts → is_tuple_over (taking parts) t ≡ is_tuple_over parts t
unfolding is_tuple_over
tuple_over-taking parts t apart = ap (λ b. is_ascending t && b) (are_taken-taking t parts apart)

-- where parts have a tuple, each set has as many numbers as its part takes
tuple_shows_enough : (n : ℕ) (parts : List Part) (t : List ℕ) → AreParts n parts → is_tuple_over parts t ≡ true → list_all has_enough parts ≡ true
tuple_shows_enough n parts t are is =
    let taken = (tuple_parts parts t is).1 in
    go parts (and_parts (list_all (λ part. is_taken_from part t) parts) (list_all (is_in_part parts) t) taken).0
  where
    go : (some : List Part) → list_all (λ part. is_taken_from part t) some ≡ true → list_all has_enough some ≡ true
    go [] all = refl
    go (part ∷ some) all =
        let split = and_parts (is_taken_from part t) (list_all (λ part. is_taken_from part t) some) all in
        let chosen : IsChosen 0 n (total_take parts) t = tuple_is_chosen n parts t are is in
        let e = eqb-true (count_in part.set t) part.take split.0 in
        and_from (has_enough part) (list_all has_enough some)
        (le-leb part.take (length (members part.set)) (omega (arith, count_in_fits part.set 0 n t chosen.within, length-members part.set)))
        (go some split.1)

-- how often a tuple stands in the family over parts: once, where it is a tuple over them
pub count_over : (n size bound : ℕ) (parts : List Part) (t : List ℕ) → AreParts n parts → count_by (λ f. is_tuple_of f t) (family_over size bound parts) ≡ one_if (is_tuple_over parts t)
count_over n size bound parts t are = ⊎_elim
    (λ enough. ap (count_by (λ f. is_tuple_of f t)) (cond-true (list_all has_enough parts) _ _ enough)
    ∙ (count_cons (λ f. is_tuple_of f t) (record { size = size; bound = bound; parts = taking parts }) []
    ∙ (ap (λ b. one_if b + 0) (tuple_over-taking parts t are.apart) ∙ omega arith)))
    (λ lack. ap (count_by (λ f. is_tuple_of f t)) (cond-false (list_all has_enough parts) _ _ lack)
    ∙ ap one_if (sym (false_from_ne_true (is_tuple_over parts t) (λ is. true≢false (sym (tuple_shows_enough n parts t are is) ∙ lack)))))
    (cases_Bool (list_all has_enough parts))

-- what holds of the family over parts, where their sets have enough numbers, holds of each family over them
pub each_over : (P : Family → Type 0) (size bound : ℕ) (parts : List Part) → (list_all has_enough parts ≡ true → P (record { size = size; bound = bound; parts = taking parts })) → AllByRecursion P (family_over size bound parts)
each_over P size bound parts holds = by_case (list_all has_enough parts) holds
  where
    by_case : (b : Bool) → (b ≡ true → P (record { size = size; bound = bound; parts = taking parts })) → AllByRecursion P (cond b (record { size = size; bound = bound; parts = taking parts } ∷ []) [])
    by_case true holds = (holds refl, tt)
    by_case false holds = tt

-- where each tuple over the parts has this bound, each tuple of a family over them has it
pub bound_over : (size bound other : ℕ) (parts : List Part) (t : List ℕ) → AreApart parts → (is_tuple_over parts t ≡ true → bound ≡ other) → AllByRecursion (λ (f : Family). is_tuple_of f t ≡ true → f.bound ≡ other) (family_over size bound parts)
bound_over size bound other parts t apart same =
    each_over (λ f. is_tuple_of f t ≡ true → f.bound ≡ other) size bound parts (λ enough is. same (sym (tuple_over-taking parts t apart) ∙ is))

all_disjoint : (part : Part) (parts : List Part) → ((p : ℕ) → is_in part.set p ≡ true → is_in_part parts p ≡ false) → AllByRecursion (AreDisjoint part) parts
all_disjoint part [] none = tt
all_disjoint part (other ∷ parts) none = (
  (λ p is is'. true≢false (sym is' ∙ (or_parts (is_in other.set p) (is_in_part parts p) (none p is)).0)),
  all_disjoint part parts (λ p is. (or_parts (is_in other.set p) (is_in_part parts p) (none p is)).1),
)

pairs_from : (parts : List Part) → AreApart parts → AllPairs AreDisjoint parts
pairs_from [] apart = λ i j d lt in'. absurd (omega arith)
pairs_from (part ∷ parts) apart =
    AllPairs-cons AreDisjoint part parts (All-from_recursion (AreDisjoint part) parts (all_disjoint part parts apart.0)) (pairs_from parts apart.1)

each_part : (n : ℕ) (parts : List Part) → AreBelow n parts → list_all has_enough parts ≡ true → AllByRecursion (IsPart n) (taking parts)
each_part n [] below enough = tt
each_part n (part ∷ parts) below enough =
    let split = and_parts (has_enough part) (list_all has_enough parts) enough in
    by_case (takes_some part) (λ is. record { below = below.0; some = (let l = ltb-true 0 part.take is in omega arith); enough = leb-true part.take _ split.0 }) (each_part n parts below.1 split.1)
  where
    by_case : (b : Bool) → (b ≡ true → IsPart n part) → AllByRecursion (IsPart n) (taking parts) → AllByRecursion (IsPart n) (cond b (part ∷ taking parts) (taking parts))
    by_case true is rest = (is refl, rest)
    by_case false is rest = rest

total_take-taking : (parts : List Part) → total_take (taking parts) ≡ total_take parts
total_take-taking [] = refl
total_take-taking (part ∷ parts) = ⊎_elim
    (λ some. let e = ap total_take (cond-true (takes_some part) (part ∷ taking parts) (taking parts) some) in
    omega (arith, total_take-taking parts, sum_by-cons (λ (part : Part). part.take) part parts, sum_by-cons (λ (part : Part). part.take) part (taking parts)))
    (λ nothing. let e = ap total_take (cond-false (takes_some part) (part ∷ taking parts) (taking parts) nothing) in
    let z = ltb-false 0 part.take nothing in
    omega (arith, total_take-taking parts, sum_by-cons (λ (part : Part). part.take) part parts))
    (cases_Bool (takes_some part))

length-taking : (parts : List Part) → length (taking parts) ≤ total_take parts
length-taking [] = omega arith
length-taking (part ∷ parts) = ⊎_elim
    (λ some. let e = ap length (cond-true (takes_some part) (part ∷ taking parts) (taking parts) some) in
    let l = ltb-true 0 part.take some in
    omega (arith, length-taking parts, sum_by-cons (λ (part : Part). part.take) part parts))
    (λ nothing. let e = ap length (cond-false (takes_some part) (part ∷ taking parts) (taking parts) nothing) in
    omega (arith, length-taking parts, sum_by-cons (λ (part : Part). part.take) part parts))
    (cases_Bool (takes_some part))

some_parts : (parts : List Part) → 1 ≤ total_take parts → 1 ≤ length parts
some_parts [] some = absurd (omega arith)
some_parts (part ∷ parts) some = omega arith

-- the family over parts is a family
pub family_over_is : (n size bound : ℕ) (parts : List Part) → AreParts n parts → total_take parts ≡ size → 1 ≤ size → size ≤ 8 → AllByRecursion (IsFamily n) (family_over size bound parts)
family_over_is n size bound parts are total some small =
    each_over (IsFamily n) size bound parts (λ enough. record {
      some = some_parts (taking parts) (omega (arith, total_take-taking parts));
      few = omega (arith, length-taking parts);
      parts = All-from_recursion (IsPart n) (taking parts) (each_part n parts are.below enough);
      disjoint = pairs_from (taking parts) (AreApart-taking parts are.apart);
      size = total_take-taking parts ∙ total;
      small = small;
    })
