-- Ranges, and how many pairs there are.
use Rattle.std.proofs.Common.{◌≡◌, ℕ, zero, suc, ◌+◌, ◌*◌, ◌<◌, ◌≤◌, Bool, true, false, cond, nat_lt, List, [], ◌∷◌, ◌++◌, length, refl, sym, ap, subst, ◌∙◌, append_assoc, arith}
use Rattle.std.specs.List.{flat_map, range_with_len}
use Rattle.std.proofs.lemmas.List.{append-nil}
use Rattle.std.proofs.lemmas.List.FromFn.{length-range_with_len}
use Rattle.std.proofs.lemmas.Grind.{flat_map-append}
use Rattle.std.proofs.lemmas.Nat.{mul-le}
use Rattle.gadget_maker.specs.Gadget.{pair, row_of_pairs, pairs, pair_number, crossing, crossings_at, row_of_crossings, crossings}
use Rattle.gadget_maker.specs.declared.pairs.Pair.{Pair}
use Rattle.gadget_maker.specs.declared.pairs.Crossing.{Crossing}
use Rattle.gadget_maker.proofs.Each.{length_flat}

range_more : (a n : ℕ) → range_with_len a (suc n) ≡ range_with_len a n ++ (a + n) ∷ []
range_more a zero = let e : a ≡ a + 0 = omega arith in ap (λ v. v ∷ []) e
range_more a (suc n) =
    let e : a + 1 + n ≡ a + suc n = omega arith in
    ap (λ v. a ∷ v) (range_more (a + 1) n ∙ ap (λ v. range_with_len (a + 1) n ++ v ∷ []) e)

range_next : (n : ℕ) → range_with_len 0 (n + 1) ≡ range_with_len 0 n ++ n ∷ []
range_next n =
    let e : n + 1 ≡ suc n = omega arith in
    let z : 0 + n ≡ n = omega arith in
    ap (range_with_len 0) e ∙ (range_more 0 n ∙ ap (λ v. range_with_len 0 n ++ v ∷ []) z)

-- one number more
pub each_next : {X : Type 0} (f : ℕ → List X) (before now new : List X) (k : ℕ) → now ≡ before ++ flat_map f (range_with_len 0 k) → new ≡ now ++ f k
    → new ≡ before ++ flat_map f (range_with_len 0 (k + 1))
each_next f before now new k h n =
    n ∙ (ap (λ v. v ++ f k) h
    ∙ (append_assoc before (flat_map f (range_with_len 0 k)) (f k)
    ∙ ap (λ v. before ++ v)
    (sym (ap (flat_map f) (range_next k) ∙ (flat_map-append f (range_with_len 0 k) (k ∷ []) ∙ ap (λ v. flat_map f (range_with_len 0 k) ++ v) (append-nil (f k)))))))

pairs_in_row : (d i : ℕ) → length (row_of_pairs d i) ≤ d
pairs_in_row d i =
    let h = length_flat (λ j. pair i j ∷ []) 1 (λ k. omega arith) (range_with_len 0 d) in
    let e = length-range_with_len 0 d in
    omega arith

one : {X : Type 0} (p q : Bool) (x y : X) → length (cond p (x ∷ []) (cond q (y ∷ []) [])) ≤ 1
one true q x y = omega arith
one false true x y = omega arith
one false false x y = omega arith

at_most_one : (d i j : ℕ) → length (crossings_at d i j) ≤ 1
at_most_one d i j = one (nat_lt i j) (nat_lt j i) (crossing i j (pair_number d i j)) (crossing i j (pair_number d j i))

crossings_in_row : (d i : ℕ) → length (row_of_crossings d i) ≤ d
crossings_in_row d i =
    let h = length_flat (crossings_at d i) 1 (at_most_one d i) (range_with_len 0 d) in
    let e = length-range_with_len 0 d in
    omega arith

square : (d n m : ℕ) → d ≤ 16 → n ≡ d → m ≤ d * n → m ≤ 256
square d n m few e h =
    let k : d * n ≤ 16 * 16 = mul-le d n 16 16 few (subst (λ v. v ≤ 16) (sym e) few) in
    omega arith

pub few_pairs : (d : ℕ) → d ≤ 16 → length (pairs d) ≤ 256
unfolding pairs
few_pairs d few =
    square d (length (range_with_len 0 d)) _ few (length-range_with_len 0 d) (length_flat (row_of_pairs d) d (pairs_in_row d) (range_with_len 0 d))

pub few_crossings : (d : ℕ) → d ≤ 16 → length (crossings d) ≤ 256
unfolding crossings
few_crossings d few =
    square d (length (range_with_len 0 d)) _ few (length-range_with_len 0 d) (length_flat (row_of_crossings d) d (crossings_in_row d) (range_with_len 0 d))

pub each_done : {X : Type 0} (f : ℕ → List X) (before now : List X) (k n : ℕ) → k ≡ n → now ≡ before ++ flat_map f (range_with_len 0 k) → now ≡ before ++ flat_map f (range_with_len 0 n)
each_done f before now k n e h = h ∙ ap (λ v. before ++ flat_map f (range_with_len 0 v)) e
