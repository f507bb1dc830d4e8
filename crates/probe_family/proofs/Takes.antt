-- What a tuple takes from parts, its first number first. The parts' takes may be 0 here.
use Rattle.std.proofs.Common.{◌≡◌, ℕ, suc, ◌+◌, ◌-◌, ◌≤◌, Bool, true, false, not, ◌&&◌, ◌||◌, ◌==◌, List, [], ◌∷◌, length, map, refl, sym, ap, ◌∙◌, subst, arith, ⊎_elim, nat_lt}
use Rattle.std.proofs.lemmas.Bool.{cases_Bool, and_parts, and_from, or_left, or_parts, eq-eqb, eqb-true, lt-ltb, ltb-true, ltb-false, true≢false}
use Rattle.std.proofs.lemmas.List.Sums.{sum_by-cons}
use Rattle.std.specs.List.{list_all}
use Rattle.bit_rows.specs.Sets.{is_in}
use Rattle.probe_family.specs.declared.part.Part.{Part}
use Rattle.probe_family.specs.Families.{count_in, is_taken_from, is_in_part, are_taken, total_take}
use Rattle.probe_family.proofs.Bits.{one_if, same_tests, exchange, count_cons}
use Rattle.probe_family.proofs.Members.{count_from, count_from_step, count_from_end}

-- the part once c was taken, if it is in the part's set
abbrev pub less_one : ℕ → Part → Part
less_one c part = record { take = part.take - one_if (is_in part.set c); set = part.set }

abbrev pub less : ℕ → List Part → List Part
less c parts = map (less_one c) parts

-- c may be taken, as far as the part goes
abbrev pub may_give : ℕ → Part → Bool
may_give c part = not (is_in part.set c) || nat_lt 0 part.take

-- c may be taken from the parts
abbrev pub may_take : List Part → ℕ → Bool
may_take parts c = list_all (may_give c) parts && is_in_part parts c

taken_one : (b : Bool) (k take : ℕ) → (one_if b + k == take) ≡ ((not b || nat_lt 0 take) && (k == take - one_if b))
taken_one true k take =
    same_tests _ _
    (λ h. let e = eqb-true (1 + k) take h in and_from (nat_lt 0 take) (k == take - 1) (lt-ltb 0 take (omega arith)) (eq-eqb k (take - 1) (omega arith)))
    (λ h. let p = and_parts (nat_lt 0 take) (k == take - 1) h in let l = ltb-true 0 take p.0 in let e = eqb-true k (take - 1) p.1 in eq-eqb (1 + k) take (omega arith))
taken_one false k take = same_tests _ _ (λ h. let e = eqb-true (0 + k) take h in eq-eqb k (take - 0) (omega arith)) (λ h. let e = eqb-true k (take - 0) h in eq-eqb (0 + k) take (omega arith))

is_taken-cons : (part : Part) (c : ℕ) (t : List ℕ) → is_taken_from part (c ∷ t) ≡ (may_give c part && is_taken_from (less_one c part) t)
is_taken-cons part c t = ap (λ k. k == part.take) (count_cons (is_in part.set) c t) ∙ taken_one (is_in part.set c) (count_in part.set t) part.take

all_taken-cons : (parts : List Part) (c : ℕ) (t : List ℕ) → list_all (λ part. is_taken_from part (c ∷ t)) parts ≡ (list_all (may_give c) parts && list_all (λ part. is_taken_from part t) (less c parts))
all_taken-cons [] c t = refl
all_taken-cons (part ∷ parts) c t =
    ap (λ b. b && list_all (λ part. is_taken_from part (c ∷ t)) parts) (is_taken-cons part c t)
    ∙ (ap (λ b. (may_give c part && is_taken_from (less_one c part) t) && b) (all_taken-cons parts c t)
    ∙ exchange (may_give c part) (is_taken_from (less_one c part) t) (list_all (may_give c) parts) (list_all (λ part. is_taken_from part t) (less c parts)))

pub in_part-less : (c : ℕ) (parts : List Part) (p : ℕ) → is_in_part (less c parts) p ≡ is_in_part parts p
in_part-less c [] p = refl
in_part-less c (part ∷ parts) p = ap (λ b. is_in part.set p || b) (in_part-less c parts p)

all_in-less : (c : ℕ) (parts : List Part) (t : List ℕ) → list_all (is_in_part (less c parts)) t ≡ list_all (is_in_part parts) t
all_in-less c parts [] = refl
all_in-less c parts (p ∷ t) = ap (λ b. b && list_all (is_in_part (less c parts)) t) (in_part-less c parts p) ∙ ap (λ b. is_in_part parts p && b) (all_in-less c parts t)

-- a tuple that begins with c takes c and then the others from what is left of the parts
pub are_taken-cons : (parts : List Part) (c : ℕ) (t : List ℕ) → are_taken parts (c ∷ t) ≡ (may_take parts c && are_taken (less c parts) t)
are_taken-cons parts c t =
    ap (λ b. b && list_all (is_in_part parts) (c ∷ t)) (all_taken-cons parts c t)
    ∙ (exchange (list_all (may_give c) parts) (list_all (λ part. is_taken_from part t) (less c parts)) (is_in_part parts c) (list_all (is_in_part parts) t)
    ∙ ap (λ b. may_take parts c && (list_all (λ part. is_taken_from part t) (less c parts) && b)) (sym (all_in-less c parts t)))

-- no number is in two of the sets
abbrev pub AreApart : List Part → Type 0
AreApart [] = Unit {0}
AreApart (part ∷ parts) = ((p : ℕ) → is_in part.set p ≡ true → is_in_part parts p ≡ false) × AreApart parts

pub AreApart-less : (c : ℕ) (parts : List Part) → AreApart parts → AreApart (less c parts)
AreApart-less c [] apart = tt
AreApart-less c (part ∷ parts) apart = ((λ p is. in_part-less c parts p ∙ apart.0 p is), AreApart-less c parts apart.1)

-- the sets are of numbers below n
abbrev pub AreBelow : ℕ → List Part → Type 0
AreBelow n [] = Unit {0}
AreBelow n (part ∷ parts) = (length part.set ≡ n) × AreBelow n parts

pub AreBelow-less : (n c : ℕ) (parts : List Part) → AreBelow n parts → AreBelow n (less c parts)
AreBelow-less n c [] below = tt
AreBelow-less n c (part ∷ parts) below = (below.0, AreBelow-less n c parts below.1)

-- what is not in the parts changes nothing in them
pub less_none : (c : ℕ) (parts : List Part) → is_in_part parts c ≡ false → less c parts ≡ parts
less_none c [] none = refl
less_none c (part ∷ parts) none =
    let split = or_parts (is_in part.set c) (is_in_part parts c) none in
    let same : part.take - 0 ≡ part.take = omega arith in
    ap (λ b. record { take = part.take - one_if b; set = part.set } ∷ less c parts) split.0
    ∙ (ap (λ k. record { take = k; set = part.set } ∷ less c parts) same ∙ ap (λ l. part ∷ l) (less_none c parts split.1))

pub all_give_none : (c : ℕ) (parts : List Part) → is_in_part parts c ≡ false → list_all (may_give c) parts ≡ true
all_give_none c [] none = refl
all_give_none c (part ∷ parts) none =
    let split = or_parts (is_in part.set c) (is_in_part parts c) none in
    and_from _ _ (or_left (not (is_in part.set c)) (nat_lt 0 part.take) (ap not split.0)) (all_give_none c parts split.1)

-- how taking c from parts goes: from the first of them, or from the others
pub may_take_first : (part : Part) (parts : List Part) (c : ℕ) → is_in part.set c ≡ true → is_in_part parts c ≡ false → may_take (part ∷ parts) c ≡ nat_lt 0 part.take
may_take_first part parts c here none =
    ap (λ b. ((not b || nat_lt 0 part.take) && list_all (may_give c) parts) && (b || is_in_part parts c)) here
    ∙ (ap (λ b. (nat_lt 0 part.take && b) && true) (all_give_none c parts none) ∙ by_case (nat_lt 0 part.take))
  where
    by_case : (b : Bool) → ((b && true) && true) ≡ b
    by_case true = refl
    by_case false = refl

pub may_take_rest : (part : Part) (parts : List Part) (c : ℕ) → is_in part.set c ≡ false → may_take (part ∷ parts) c ≡ may_take parts c
may_take_rest part parts c not_here = ap (λ b. ((not b || nat_lt 0 part.take) && list_all (may_give c) parts) && (b || is_in_part parts c)) not_here

-- what a taken number takes from the sum
pub total_take-less : (c : ℕ) (parts : List Part) → AreApart parts → may_take parts c ≡ true → total_take parts ≡ suc (total_take (less c parts))
total_take-less c [] apart may = absurd (true≢false (sym may))
total_take-less c (part ∷ parts) apart may = ⊎_elim
    (λ here. let none = apart.0 c here in
    let l = ltb-true 0 part.take (sym (may_take_first part parts c here none) ∙ may) in
    let first : (less_one c part).take ≡ part.take - 1 = ap (λ b. part.take - one_if b) here in
    let rest : total_take (less c parts) ≡ total_take parts = ap total_take (less_none c parts none) in
    omega (arith, sum_by-cons (λ (part : Part). part.take) part parts, sum_by-cons (λ (part : Part). part.take) (less_one c part) (less c parts)))
    (λ not_here.
    let rest = total_take-less c parts apart.1 (sym (may_take_rest part parts c not_here) ∙ may) in
    let first : (less_one c part).take ≡ part.take - 0 = ap (λ b. part.take - one_if b) not_here in
    omega (arith, sum_by-cons (λ (part : Part). part.take) part parts, sum_by-cons (λ (part : Part). part.take) (less_one c part) (less c parts)))
    (cases_Bool (is_in part.set c))

-- a tuple is as long as the takes of its parts are together
pub length-taken : (t : List ℕ) (parts : List Part) → AreApart parts → are_taken parts t ≡ true → length t ≡ total_take parts
length-taken [] parts apart taken = sym (no_take parts (and_parts _ _ taken).0)
  where
    no_take : (parts : List Part) → list_all (λ part. is_taken_from part []) parts ≡ true → total_take parts ≡ 0
    no_take [] none = refl
    no_take (part ∷ parts) none = let split = and_parts _ _ none in let first = eqb-true 0 part.take split.0 in omega (arith, sum_by-cons (λ (part : Part). part.take) part parts, no_take parts split.1)
length-taken (c ∷ t) parts apart taken =
    let split : (may_take parts c ≡ true) × (are_taken (less c parts) t ≡ true) = and_parts _ _ (sym (are_taken-cons parts c t) ∙ taken) in
    let rest : length t ≡ total_take (less c parts) = length-taken t (less c parts) (AreApart-less c parts apart) split.1 in
    omega (arith, total_take-less c parts apart split.0)

-- from each set there are as many numbers from c on as its part takes
abbrev pub HaveEnough : ℕ → List Part → Type 0
HaveEnough c [] = Unit {0}
HaveEnough c (part ∷ parts) = (part.take ≤ count_from part.set c) × HaveEnough c parts

enough_one : (b : Bool) (take now later : ℕ) → now ≡ one_if b + later → take ≤ now → take - one_if b ≤ later
enough_one true take now later step le = omega arith
enough_one false take now later step le = omega arith

pub HaveEnough-less : (c : ℕ) (parts : List Part) → HaveEnough c parts → HaveEnough (suc c) (less c parts)
HaveEnough-less c [] enough = tt
HaveEnough-less c (part ∷ parts) enough =
    (enough_one (is_in part.set c) part.take (count_from part.set c) (count_from part.set (suc c)) (count_from_step part.set c) enough.0, HaveEnough-less c parts enough.1)

-- a number that may not be taken is missed by no part
pub HaveEnough-later : (c : ℕ) (parts : List Part) → AreApart parts → may_take parts c ≡ false → HaveEnough c parts → HaveEnough (suc c) parts
HaveEnough-later c [] apart may_not enough = tt
HaveEnough-later c (part ∷ parts) apart may_not enough = ⊎_elim
    (λ here. let none = apart.0 c here in
    let no_take = ltb-false 0 part.take (sym (may_take_first part parts c here none) ∙ may_not) in
    (omega arith, subst (HaveEnough (suc c)) (less_none c parts none) (HaveEnough-less c parts enough.1)))
    (λ not_here.
    let step : count_from part.set c ≡ 0 + count_from part.set (suc c) = count_from_step part.set c ∙ ap (λ b. one_if b + count_from part.set (suc c)) not_here in
    (omega (arith, enough.0), HaveEnough-later c parts apart.1 (sym (may_take_rest part parts c not_here) ∙ may_not) enough.1))
    (cases_Bool (is_in part.set c))

-- behind the last number nothing is left to take
pub HaveEnough-end : (c : ℕ) (parts : List Part) → AreBelow c parts → HaveEnough c parts → total_take parts ≡ 0
HaveEnough-end c [] below enough = refl
HaveEnough-end c (part ∷ parts) below enough =
    omega (arith, enough.0, count_from_end part.set c (omega (arith, below.0)), sum_by-cons (λ (part : Part). part.take) part parts, HaveEnough-end c parts below.1 enough.1)

-- nothing is taken from parts that take nothing
pub taken_none : (parts : List Part) → total_take parts ≡ 0 → are_taken parts [] ≡ true
taken_none parts none = and_from (list_all (λ part. is_taken_from part []) parts) true (all parts none) refl
  where
    all : (parts : List Part) → total_take parts ≡ 0 → list_all (λ part. is_taken_from part []) parts ≡ true
    all [] none = refl
    all (part ∷ parts) none =
        let split = sum_by-cons (λ (part : Part). part.take) part parts in
        and_from (0 == part.take) _ (eq-eqb 0 part.take (omega arith)) (all parts (omega arith))
