-- How many tuples take so many numbers from each of some parts: the product of the binomial numbers.
use Rattle.std.proofs.Common.{◌≡◌, ℕ, zero, suc, ◌+◌, ◌-◌, ◌*◌, ◌<◌, ◌≤◌, Bool, true, false, ◌&&◌, ◌||◌, cond, List, [], ◌∷◌, ◌++◌, length, map, refl, sym, ap, ◌∙◌, subst, arith, ⊎_elim, count_by, nat_lt, take, get_or}
use Rattle.std.proofs.lemmas.Bool.{cases_Bool, lt-ltb, true≢false, cond-true, cond-false}
use Rattle.std.proofs.lemmas.List.Sums.{sum_by-cons}
use Rattle.std.proofs.lemmas.List.{take_more}
use Rattle.std.proofs.Math.Nat.{mul-le-mul_left}
use Rattle.std.specs.List.{range_with_len}
use Rattle.bit_rows.specs.Sets.{is_in}
use Rattle.tuple_rank.specs.Choices.{choices, choose}
use Rattle.tuple_rank.proofs.Choosing.{choices-zero, choices-none, choose-zero, choose-none, choose-more, choose-some}
use Rattle.probe_family.specs.declared.part.Part.{Part}
use Rattle.probe_family.specs.Families.{is_in_part, are_taken, total_take}
use Rattle.probe_family.proofs.Bits.{one_if, count_cons, count_append, count_map, count_agree, count_none}
use Rattle.probe_family.proofs.Members.{count_from, count_from_step, count_from_end}
use Rattle.probe_family.proofs.Takes.{AreApart, AreApart-less, AreBelow, AreBelow-less, HaveEnough, less, less_one, less_none, may_take, may_take_first, may_take_rest, are_taken-cons, total_take-less, taken_none}
use Rattle.probe_family.proofs.Ranges.{choices-range}

-- the ways to take from each part, of the numbers from c on
abbrev pub ways : List Part → ℕ → ℕ
ways [] c = 1
ways (part ∷ parts) c = choose (count_from part.set c) part.take * ways parts c

-- the ways that begin with c, if there are any
abbrev ways_with : List Part → ℕ → ℕ
ways_with parts c = cond (may_take parts c) (ways (less c parts) (suc c)) 0

ways_later : (parts : List Part) (c : ℕ) → is_in_part parts c ≡ false → ways parts c ≡ ways parts (suc c)
ways_later [] c none = refl
ways_later (part ∷ parts) c none = later (is_in part.set c) (is_in_part parts c) none (count_from_step part.set c) (ways_later parts c)
  where
    later : (here elsewhere : Bool) → (here || elsewhere) ≡ false → count_from part.set c ≡ one_if here + count_from part.set (suc c) → (elsewhere ≡ false → ways parts c ≡ ways parts (suc c)) → ways (part ∷ parts) c ≡ ways (part ∷ parts) (suc c)
    later true elsewhere none step rest = absurd (true≢false none)
    later false true none step rest = absurd (true≢false none)
    later false false none step rest =
        let e : count_from part.set c ≡ count_from part.set (suc c) = omega arith in
        ap (λ n. choose n part.take * ways parts c) e ∙ ap (λ w. choose (count_from part.set (suc c)) part.take * w) (rest refl)

pascal : (n m take w : ℕ) → n ≡ suc m → choose n take * w ≡ choose m take * w + cond (nat_lt 0 take) (choose m (take - 1) * w) 0
pascal n m zero w is = ap (λ k. k * w) (choose-zero n ∙ sym (choose-zero m)) ∙ (omega arith)
pascal n m (suc k) w is =
    let e : suc k - 1 ≡ k = omega arith in
    rw e (ap (λ i. choose i (suc k) * w) is
    ∙ (ap (λ i. i * w) (choose-more m k)
    ∙ (sum_times (choose m k) (choose m (suc k)) w
    ∙ ap (λ b. choose m (suc k) * w + cond b (choose m k * w) 0) (sym (lt-ltb 0 (suc k) (omega arith))))))
  where
    sum_times : (a b c : ℕ) → (a + b) * c ≡ b * c + a * c
    sum_times a b c = omega arith

spread : (a b c d : ℕ) (t : Bool) → b ≡ c + cond t d 0 → a * b ≡ a * c + cond t (a * d) 0
spread a b c d true e = ap (λ x. a * x) e ∙ omega arith
spread a b c d false e = ap (λ x. a * x) e ∙ omega arith

ways_step : (parts : List Part) (c : ℕ) → AreApart parts → ways parts c ≡ ways parts (suc c) + ways_with parts c
ways_step [] c apart = refl
ways_step (part ∷ parts) c apart = ⊎_elim
    (λ here. let none = apart.0 c here in
    let step : count_from part.set c ≡ suc (count_from part.set (suc c)) = count_from_step part.set c ∙ (ap (λ b. one_if b + count_from part.set (suc c)) here ∙ omega arith) in
    let first : (less_one c part).take ≡ part.take - 1 = ap (λ b. part.take - one_if b) here in
    ap (λ w. choose (count_from part.set c) part.take * w) (ways_later parts c none)
    ∙ (pascal _ (count_from part.set (suc c)) part.take (ways parts (suc c)) step
    ∙ ap (λ x. choose (count_from part.set (suc c)) part.take * ways parts (suc c) + x)
    (ap (λ b. cond b (choose (count_from part.set (suc c)) (part.take - 1) * ways parts (suc c)) 0) (sym (may_take_first part parts c here none))
    ∙ (ap (λ k. cond (may_take (part ∷ parts) c) (choose (count_from part.set (suc c)) k * ways parts (suc c)) 0) (sym first)
    ∙ ap (λ l. cond (may_take (part ∷ parts) c) (choose (count_from part.set (suc c)) (less_one c part).take * ways l (suc c)) 0) (sym (less_none c parts none))))))
    (λ not_here.
    let step : count_from part.set c ≡ count_from part.set (suc c) = count_from_step part.set c ∙ (ap (λ b. one_if b + count_from part.set (suc c)) not_here ∙ omega arith) in
    let first : (less_one c part).take ≡ part.take = ap (λ b. part.take - one_if b) not_here ∙ omega arith in
    ap (λ n. choose n part.take * ways parts c) step
    ∙ (spread (choose (count_from part.set (suc c)) part.take) (ways parts c) (ways parts (suc c)) (ways (less c parts) (suc c)) (may_take parts c) (ways_step parts c apart.1)
    ∙ ap (λ x. choose (count_from part.set (suc c)) part.take * ways parts (suc c) + x)
    (ap (λ b. cond b (choose (count_from part.set (suc c)) part.take * ways (less c parts) (suc c)) 0) (sym (may_take_rest part parts c not_here))
    ∙ ap (λ k. cond (may_take (part ∷ parts) c) (choose (count_from part.set (suc c)) k * ways (less c parts) (suc c)) 0) (sym first))))
    (cases_Bool (is_in part.set c))

ways_none : (c : ℕ) (parts : List Part) → total_take parts ≡ 0 → ways parts c ≡ 1
ways_none c [] none = refl
ways_none c (part ∷ parts) none =
    let split = sum_by-cons (λ (part : Part). part.take) part parts in
    let zero_take : part.take ≡ 0 = omega arith in
    let rest : total_take parts ≡ 0 = omega arith in
    ap (λ k. choose (count_from part.set c) k * ways parts c) zero_take ∙ (ap (λ x. x * ways parts c) (choose-zero (count_from part.set c)) ∙ (let e = ways_none c parts rest in omega arith))

ways_end : (c k : ℕ) (parts : List Part) → AreBelow c parts → total_take parts ≡ suc k → ways parts c ≡ 0
ways_end c k [] end some = absurd (omega arith)
ways_end c k (part ∷ parts) end some = by_take part.take (ways parts c) refl (λ j rest. ways_end c j parts end.1 rest)
  where
    by_take : (take w : ℕ) → part.take ≡ take → ((j : ℕ) → total_take parts ≡ suc j → w ≡ 0) → choose (count_from part.set c) take * w ≡ 0
    by_take zero w is rest =
        let e : total_take parts ≡ suc k = omega (arith, sum_by-cons (λ (part : Part). part.take) part parts) in
        ap (λ x. choose (count_from part.set c) 0 * x) (rest k e) ∙ omega arith
    by_take (suc j) w is rest = ap (λ n. choose n (suc j) * w) (count_from_end part.set c (omega (arith, end.0))) ∙ (ap (λ x. x * w) (choose-none j) ∙ omega arith)

-- of the ways to choose as many numbers as the parts take together, so many take them from the parts
pub count_taken : (k c m n : ℕ) (parts : List Part) → c + m ≡ n → AreApart parts → AreBelow n parts → total_take parts ≡ k → count_by (are_taken parts) (choices k (range_with_len c m)) ≡ ways parts c
count_taken zero c m n parts is apart end total =
    ap (count_by (are_taken parts)) (choices-zero (range_with_len c m))
    ∙ (count_cons (are_taken parts) [] [] ∙ (ap (λ b. one_if b + 0) (taken_none parts total) ∙ sym (ways_none c parts total)))
count_taken (suc k) c zero n parts is apart end total =
    ap (count_by (are_taken parts)) (choices-none k)
    ∙ sym (ways_end c k parts (subst (λ e. AreBelow e parts) (let e : n ≡ c = omega arith in e) end) total)
count_taken (suc k) c (suc m) n parts is apart end total =
    let rest = range_with_len (suc c) m in
    let later : count_by (are_taken parts) (choices (suc k) rest) ≡ ways parts (suc c) = count_taken (suc k) (suc c) m n parts (omega arith) apart end total in
    let with_c : count_by (are_taken parts) (map (λ t. c ∷ t) (choices k rest)) ≡ ways_with parts c =
    count_map (are_taken parts) (λ t. c ∷ t) (choices k rest)
    ∙ (count_agree (λ t. are_taken parts (c ∷ t)) (λ t. may_take parts c && are_taken (less c parts) t) (are_taken-cons parts c) (choices k rest)
    ∙ ⊎_elim
    (λ may. ap (λ b. count_by (λ t. b && are_taken (less c parts) t) (choices k rest)) may
    ∙ (count_taken k (suc c) m n (less c parts) (omega arith) (AreApart-less c parts apart) (AreBelow-less n c parts end) (let e = total_take-less c parts apart may in omega arith)
    ∙ sym (cond-true (may_take parts c) (ways (less c parts) (suc c)) 0 may)))
    (λ may_not. ap (λ b. count_by (λ t. b && are_taken (less c parts) t) (choices k rest)) may_not
    ∙ (count_none (λ t. false) (λ t. refl) (choices k rest) ∙ sym (cond-false (may_take parts c) (ways (less c parts) (suc c)) 0 may_not)))
    (cases_Bool (may_take parts c))) in
    ap (count_by (are_taken parts)) (choices-range k c m)
    ∙ (count_append (are_taken parts) (map (λ t. c ∷ t) (choices k rest)) (choices (suc k) rest)
    ∙ (ap (λ x. x + count_by (are_taken parts) (choices (suc k) rest)) with_c
    ∙ (ap (λ x. ways_with parts c + x) later ∙ (let e = ways_step parts c apart in omega arith))))

-- where each part can be filled there is a way
pub ways_some : (c : ℕ) (parts : List Part) → HaveEnough c parts → 1 ≤ ways parts c
ways_some c [] enough = omega arith
ways_some c (part ∷ parts) enough = product (choose (count_from part.set c) part.take) (ways parts c) (choose-some (count_from part.set c) part.take enough.0) (ways_some c parts enough.1)
  where
    product : (a b : ℕ) → 1 ≤ a → 1 ≤ b → 1 ≤ a * b
    product a b la lb = let l = mul-le-mul_left a lb in omega arith

-- fewer parts can be filled in no more ways
pub ways-take : (c i : ℕ) (parts : List Part) → HaveEnough c parts → ways (take i parts) c ≤ ways parts c
ways-take c zero parts enough = ways_some c parts enough
ways-take c (suc i) [] enough = omega arith
ways-take c (suc i) (part ∷ parts) enough = mul-le-mul_left (choose (count_from part.set c) part.take) (ways-take c i parts enough.1)

ways-push : (c : ℕ) (parts : List Part) (part : Part) → ways (parts ++ part ∷ []) c ≡ ways parts c * choose (count_from part.set c) part.take
ways-push c [] part = omega arith
ways-push c (first ∷ parts) part = ap (λ w. choose (count_from first.set c) first.take * w) (ways-push c parts part) ∙ omega arith

-- one more part
pub ways_more : (c i : ℕ) (parts : List Part) (part : Part) → i < length parts → part ≡ get_or parts i part → ways (take (i + 1) parts) c ≡ ways (take i parts) c * choose (count_from part.set c) part.take
ways_more c i parts part lt is =
    ap (λ l. ways l c) (take_more parts i part lt ∙ ap (λ p. take i parts ++ p ∷ []) (sym is)) ∙ ways-push c (take i parts) part
