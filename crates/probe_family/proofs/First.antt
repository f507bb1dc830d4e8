-- The first way, in lexicographic order, to take so many numbers from each of some parts.
use Rattle.std.proofs.Common.{◌≡◌, ℕ, zero, suc, ◌+◌, ◌-◌, ◌<◌, Bool, true, false, ◌&&◌, ◌||◌, cond, List, [], ◌∷◌, ◌++◌, length, map, take, refl, sym, ap, ◌∙◌, subst, arith, ⊎_elim, nat_lt, Some, None, append_assoc}
use Rattle.std.proofs.lemmas.Bool.{cases_Bool, lt-ltb, le-ltb, ltb-true, ltb-false, true≢false, cond-true, cond-false, false_from_ne_true}
use Rattle.std.proofs.lemmas.List.Folds.{find-append}
use Rattle.std.specs.List.{find, flat_map, range_with_len, AllByRecursion}
use Rattle.std.specs.Option.{option_map, option_or}
use Rattle.bit_rows.specs.Sets.{is_in}
use Rattle.tuple_rank.specs.Choices.{choices}
use Rattle.tuple_rank.proofs.Choosing.{choices-zero}
use Rattle.probe_family.specs.declared.part.Part.{Part}
use Rattle.probe_family.specs.Families.{is_in_part, are_taken, total_take}
use Rattle.probe_family.specs.Least.{with_number, in_order, least_of_part}
use Rattle.probe_family.proofs.Bits.{find_map, find_agree, find_none}
use Rattle.probe_family.proofs.Members.{members_from, members_below_is}
use Rattle.probe_family.proofs.Takes.{AreApart, AreApart-less, AreBelow, AreBelow-less, HaveEnough, HaveEnough-less, HaveEnough-later, HaveEnough-end, less, less_none, may_take, may_take_first, may_take_rest, are_taken-cons, total_take-less, taken_none}
use Rattle.probe_family.proofs.Ranges.{choices-range, append_All}

-- each of the m numbers from c on that some part still needs
abbrev pub greedy : List Part → ℕ → ℕ → List ℕ
greedy parts c zero = []
greedy parts c (suc m) = cond (may_take parts c) (c ∷ greedy (less c parts) (suc c) m) (greedy parts (suc c) m)

-- parts that take nothing let no number be taken
may_take_none : (c : ℕ) (parts : List Part) → AreApart parts → total_take parts ≡ 0 → may_take parts c ≡ false
may_take_none c parts apart none = false_from_ne_true (may_take parts c) (λ may. let e = total_take-less c parts apart may in absurd (omega arith))

greedy_none : (parts : List Part) (c m : ℕ) → AreApart parts → total_take parts ≡ 0 → greedy parts c m ≡ []
greedy_none parts c zero apart none = refl
greedy_none parts c (suc m) apart none =
    cond-false (may_take parts c) _ _ (may_take_none c parts apart none) ∙ greedy_none parts (suc c) m apart none

-- the first of the ways to choose that takes from the parts is the greedy one
pub find_greedy : (k c m n : ℕ) (parts : List Part) → c + m ≡ n → AreApart parts → AreBelow n parts → HaveEnough c parts → total_take parts ≡ k → find (are_taken parts) (choices k (range_with_len c m)) ≡ Some (greedy parts c m)
find_greedy zero c m n parts is apart below enough total =
    ap (find (are_taken parts)) (choices-zero (range_with_len c m))
    ∙ (cond-true (are_taken parts []) (Some []) None (taken_none parts total) ∙ ap Some (sym (greedy_none parts c m apart total)))
find_greedy (suc k) c zero n parts is apart below enough total =
    let none = HaveEnough-end c parts (subst (λ e. AreBelow e parts) (let e : n ≡ c = omega arith in e) below) enough in absurd (omega arith)
find_greedy (suc k) c (suc m) n parts is apart below enough total =
    let rest = range_with_len (suc c) m in
    ap (find (are_taken parts)) (choices-range k c m)
    ∙ (find-append (are_taken parts) (map (λ t. c ∷ t) (choices k rest)) (choices (suc k) rest)
    ∙ (ap (λ o. option_or o (find (are_taken parts) (choices (suc k) rest)))
    (find_map (are_taken parts) (λ t. c ∷ t) (choices k rest)
    ∙ ap (option_map (λ t. c ∷ t)) (find_agree (λ t. are_taken parts (c ∷ t)) (λ t. may_take parts c && are_taken (less c parts) t) (are_taken-cons parts c) (choices k rest)))
    ∙ ⊎_elim
    (λ may.
    ap (λ b. option_or (option_map (λ t. c ∷ t) (find (λ t. b && are_taken (less c parts) t) (choices k rest))) (find (are_taken parts) (choices (suc k) rest))) may
    ∙ (ap (λ o. option_or (option_map (λ t. c ∷ t) o) (find (are_taken parts) (choices (suc k) rest)))
    (find_greedy k (suc c) m n (less c parts) (omega arith) (AreApart-less c parts apart) (AreBelow-less n c parts below) (HaveEnough-less c parts enough) (let e = total_take-less c parts apart may in omega arith))
    ∙ ap Some (sym (cond-true (may_take parts c) (c ∷ greedy (less c parts) (suc c) m) (greedy parts (suc c) m) may))))
    (λ may_not.
    ap (λ b. option_or (option_map (λ t. c ∷ t) (find (λ t. b && are_taken (less c parts) t) (choices k rest))) (find (are_taken parts) (choices (suc k) rest))) may_not
    ∙ (ap (λ o. option_or (option_map (λ t. c ∷ t) o) (find (are_taken parts) (choices (suc k) rest))) (find_none (λ t. false) (λ t. refl) (choices k rest))
    ∙ (find_greedy (suc k) (suc c) m n parts (omega arith) apart below (HaveEnough-later c parts apart may_not enough) total
    ∙ ap Some (sym (cond-false (may_take parts c) (c ∷ greedy (less c parts) (suc c) m) (greedy parts (suc c) m) may_not)))))
    (cases_Bool (may_take parts c))))

-- the least numbers of each part among the m numbers from c on
abbrev least_from : ℕ → ℕ → List Part → List ℕ
least_from c m parts = flat_map (λ (part : Part). take part.take (members_from part.set c m)) parts

least_later : (c m : ℕ) (parts : List Part) → is_in_part parts c ≡ false → least_from c (suc m) parts ≡ least_from (suc c) m parts
least_later c m [] none = refl
least_later c m (part ∷ parts) none = by_case (is_in part.set c) none (least_later c m parts)
  where
    by_case : (b : Bool) → (b || is_in_part parts c) ≡ false → (is_in_part parts c ≡ false → least_from c (suc m) parts ≡ least_from (suc c) m parts)
        → take part.take (cond b (c ∷ members_from part.set (suc c) m) (members_from part.set (suc c) m)) ++ least_from c (suc m) parts ≡ take part.take (members_from part.set (suc c) m) ++ least_from (suc c) m parts
    by_case true none rest = absurd (true≢false none)
    by_case false none rest = ap (λ l. take part.take (members_from part.set (suc c) m) ++ l) (rest none)

-- a number that may not be taken is not among the least
least_not : (c m : ℕ) (parts : List Part) → AreApart parts → may_take parts c ≡ false → least_from c (suc m) parts ≡ least_from (suc c) m parts
least_not c m [] apart may_not = refl
least_not c m (part ∷ parts) apart may_not = ⊎_elim
    (λ here. let none = apart.0 c here in
    let no_take = ltb-false 0 part.take (sym (may_take_first part parts c here none) ∙ may_not) in
    let zero_take : part.take ≡ 0 = omega arith in
    ap (λ k. take k (members_from part.set c (suc m)) ++ least_from c (suc m) parts) zero_take
    ∙ (least_later c m parts none ∙ ap (λ k. take k (members_from part.set (suc c) m) ++ least_from (suc c) m parts) (sym zero_take)))
    (λ not_here.
    ap (λ b. take part.take (cond b (c ∷ members_from part.set (suc c) m) (members_from part.set (suc c) m)) ++ least_from c (suc m) parts) not_here
    ∙ ap (λ l. take part.take (members_from part.set (suc c) m) ++ l) (least_not c m parts apart.1 (sym (may_take_rest part parts c not_here) ∙ may_not)))
    (cases_Bool (is_in part.set c))

-- a number that may be taken is among the least, and the others are those of what is left
record IsAmong (c m : ℕ) (parts : List Part) : Type 0 where
  before : List ℕ
  after : List ℕ
  now : least_from c (suc m) parts ≡ before ++ c ∷ after
  rest : least_from (suc c) m (less c parts) ≡ before ++ after

take_more_than : (k : ℕ) (c : ℕ) (xs : List ℕ) → 0 < k → take k (c ∷ xs) ≡ c ∷ take (k - 1) xs
take_more_than zero c xs lt = absurd (omega arith)
take_more_than (suc k) c xs lt = let e : k ≡ suc k - 1 = omega arith in ap (λ j. c ∷ take j xs) e

least_with : (c m : ℕ) (parts : List Part) → AreApart parts → may_take parts c ≡ true → IsAmong c m parts
least_with c m [] apart may = absurd (true≢false (sym may))
least_with c m (part ∷ parts) apart may = ⊎_elim
    (λ here. let none = apart.0 c here in
    let some = ltb-true 0 part.take (sym (may_take_first part parts c here none) ∙ may) in
    let rest = members_from part.set (suc c) m in
    record {
      before = [];
      after = take (part.take - 1) rest ++ least_from (suc c) m parts;
      now = ap (λ b. take part.take (cond b (c ∷ rest) rest) ++ least_from c (suc m) parts) here
          ∙ (ap (λ l. l ++ least_from c (suc m) parts) (take_more_than part.take c rest some)
          ∙ ap (λ l. c ∷ take (part.take - 1) rest ++ l) (least_later c m parts none));
      rest = ap (λ b. take (part.take - cond b 1 0) rest ++ least_from (suc c) m (less c parts)) here
          ∙ ap (λ l. take (part.take - 1) rest ++ least_from (suc c) m l) (less_none c parts none);
    })
    (λ not_here.
    let rest = members_from part.set (suc c) m in
    let among = least_with c m parts apart.1 (sym (may_take_rest part parts c not_here) ∙ may) in
    let same : part.take - 0 ≡ part.take = omega arith in
    record {
      before = take part.take rest ++ among.before;
      after = among.after;
      now = ap (λ b. take part.take (cond b (c ∷ rest) rest) ++ least_from c (suc m) parts) not_here
          ∙ (ap (λ l. take part.take rest ++ l) among.now ∙ sym (append_assoc (take part.take rest) among.before (c ∷ among.after)));
      rest = ap (λ b. take (part.take - cond b 1 0) rest ++ least_from (suc c) m (less c parts)) not_here
          ∙ (ap (λ k. take k rest ++ least_from (suc c) m (less c parts)) same
          ∙ (ap (λ l. take part.take rest ++ l) among.rest ∙ sym (append_assoc (take part.take rest) among.before among.after)));
    })
    (cases_Bool (is_in part.set c))

-- above a number
abbrev AllAbove : ℕ → List ℕ → Type 0
AllAbove c xs = AllByRecursion (λ q. c < q) xs

members_above : (set : List Bool) (b c m : ℕ) → b < c → AllAbove b (members_from set c m)
members_above set b c zero lt = tt
members_above set b c (suc m) lt = by_case (is_in set c) (members_above set b (suc c) m (omega arith))
  where
    by_case : (t : Bool) → AllAbove b (members_from set (suc c) m) → AllAbove b (cond t (c ∷ members_from set (suc c) m) (members_from set (suc c) m))
    by_case true rest = (lt, rest)
    by_case false rest = rest

take_All : (P : ℕ → Type 0) (k : ℕ) (xs : List ℕ) → AllByRecursion P xs → AllByRecursion P (take k xs)
take_All P zero xs all = tt
take_All P (suc k) [] all = tt
take_All P (suc k) (x ∷ xs) all = (all.0, take_All P k xs all.1)

least_above : (b c m : ℕ) (parts : List Part) → b < c → AllAbove b (least_from c m parts)
least_above b c m [] lt = tt
least_above b c m (part ∷ parts) lt =
    append_All (λ q. b < q) (take part.take (members_from part.set c m)) (least_from c m parts) (take_All (λ q. b < q) part.take _ (members_above part.set b c m lt)) (least_above b c m parts lt)

with_above : (c q : ℕ) (qs : List ℕ) → c < q → AllAbove c qs → AllAbove c (with_number q qs)
with_above c q [] lt all = (lt, tt)
with_above c q (r ∷ rs) lt all = by_case (nat_lt q r) (with_above c q rs lt all.1)
  where
    by_case : (b : Bool) → AllAbove c (with_number q rs) → AllAbove c (cond b (q ∷ r ∷ rs) (r ∷ with_number q rs))
    by_case true rest = (lt, all)
    by_case false rest = (all.0, rest)

in_order_above : (c : ℕ) (xs : List ℕ) → AllAbove c xs → AllAbove c (in_order xs)
in_order_above c [] all = tt
in_order_above c (x ∷ xs) all = with_above c x (in_order xs) all.0 (in_order_above c xs all.1)

with_least : (c : ℕ) (qs : List ℕ) → AllAbove c qs → with_number c qs ≡ c ∷ qs
with_least c [] all = refl
with_least c (q ∷ qs) all = cond-true (nat_lt c q) _ _ (lt-ltb c q all.0)

-- the least number comes first
in_order-least : (c : ℕ) (xs ys : List ℕ) → AllAbove c (xs ++ ys) → in_order (xs ++ c ∷ ys) ≡ c ∷ in_order (xs ++ ys)
in_order-least c [] ys all = with_least c (in_order ys) (in_order_above c ys all)
in_order-least c (x ∷ xs) ys all =
    ap (with_number x) (in_order-least c xs ys all.1) ∙ cond-false (nat_lt x c) _ _ (le-ltb x c (let l = all.0 in omega arith))

pub greedy_is_least : (c m : ℕ) (parts : List Part) → AreApart parts → greedy parts c m ≡ in_order (least_from c m parts)
greedy_is_least c zero parts apart = ap in_order (none parts)
  where
    none : (parts : List Part) → [] ≡ least_from c zero parts
    none [] = refl
    none (part ∷ parts) = none parts ∙ ap (λ l. l ++ least_from c zero parts) (no_take part.take)
      where
        no_take : (k : ℕ) → [] ≡ take {A = ℕ} k []
        no_take zero = refl
        no_take (suc k) = refl
greedy_is_least c (suc m) parts apart = ⊎_elim
    (λ may. let among = least_with c m parts apart may in
    cond-true (may_take parts c) _ _ may
    ∙ (ap (λ l. c ∷ l) (greedy_is_least (suc c) m (less c parts) (AreApart-less c parts apart) ∙ ap in_order among.rest)
    ∙ (sym (in_order-least c among.before among.after (subst (AllAbove c) among.rest (least_above c (suc c) m (less c parts) (omega arith))))
    ∙ ap in_order (sym among.now))))
    (λ may_not.
    cond-false (may_take parts c) _ _ may_not
    ∙ (greedy_is_least (suc c) m parts apart ∙ ap in_order (sym (least_not c m parts apart may_not))))
    (cases_Bool (may_take parts c))

-- the least numbers among all are those of the sets
pub least_from_all : (n : ℕ) (parts : List Part) → AreBelow n parts → least_from 0 n parts ≡ flat_map least_of_part parts
least_from_all n [] below = refl
least_from_all n (part ∷ parts) below =
    ap (λ l. take part.take l ++ least_from 0 n parts) (ap (members_from part.set 0) (sym below.0) ∙ sym (members_below_is part.set (length part.set)))
    ∙ ap (λ l. least_of_part part ++ l) (least_from_all n parts below.1)
