-- The members of a set from a number on, and how many they are.
use Rattle.std.proofs.Common.{◌≡◌, ℕ, zero, suc, ◌+◌, ◌≤◌, Bool, true, false, cond, if◌then◌else◌, List, [], ◌∷◌, ◌++◌, length, drop, refl, sym, ap, ◌∙◌, arith, count_by}
use Rattle.std.proofs.lemmas.List.{drop_all}
use Rattle.bit_rows.specs.Sets.{is_in, members, members_below}
use Rattle.probe_family.proofs.Bits.{one_if, count_cons}

-- how many numbers from c on are in the set
abbrev pub count_from : List Bool → ℕ → ℕ
count_from set c = count_by (λ b. b) (drop c set)

pub count_from_step : (set : List Bool) (c : ℕ) → count_from set c ≡ one_if (is_in set c) + count_from set (suc c)
count_from_step [] zero = refl
count_from_step [] (suc c) = refl
count_from_step (b ∷ bs) zero = count_cons (λ b. b) b bs
count_from_step (b ∷ bs) (suc c) = count_from_step bs c

pub count_from_end : (set : List Bool) (c : ℕ) → length set ≤ c → count_from set c ≡ 0
count_from_end set c past = ap (count_by (λ b. b)) (drop_all c set past)

-- the members among the m numbers from c on
abbrev pub members_from : List Bool → ℕ → ℕ → List ℕ
members_from set c zero = []
members_from set c (suc m) = cond (is_in set c) (c ∷ members_from set (suc c) m) (members_from set (suc c) m)

-- the member at the end, if it is one
abbrev at_end : List Bool → ℕ → List ℕ
at_end set i = if is_in set i then i ∷ [] else []

members_from_more : (set : List Bool) (c m : ℕ) → members_from set c (suc m) ≡ members_from set c m ++ at_end set (c + m)
members_from_more set c zero = let e : c + 0 ≡ c = omega arith in rw e (by_case (is_in set c))
  where
    by_case : (b : Bool) → cond b (c ∷ []) [] ≡ cond b (c ∷ []) []
    by_case b = refl
members_from_more set c (suc m) =
    let e : c + suc m ≡ suc c + m = omega arith in
    rw e (by_case (is_in set c) (members_from set (suc c) (suc m)) (members_from set (suc c) m) (at_end set (suc c + m)) (members_from_more set (suc c) m))
  where
    by_case : (b : Bool) (more rest end : List ℕ) → more ≡ rest ++ end → cond b (c ∷ more) more ≡ cond b (c ∷ rest) rest ++ end
    by_case true more rest end e = ap (λ l. c ∷ l) e
    by_case false more rest end e = e

pub members_below_is : (set : List Bool) (n : ℕ) → members_below set n ≡ members_from set 0 n
members_below_is set zero = refl
members_below_is set (suc n) =
    let e : 0 + n ≡ n = omega arith in
    ap (λ l. l ++ at_end set n) (members_below_is set n) ∙ sym (members_from_more set 0 n ∙ ap (λ i. members_from set 0 n ++ at_end set i) e)

pub length-members_from : (set : List Bool) (c m : ℕ) → length set ≡ c + m → length (members_from set c m) ≡ count_from set c
length-members_from set c zero is = sym (count_from_end set c (omega arith))
length-members_from set c (suc m) is = by_case (is_in set c) (count_from_step set c) (length-members_from set (suc c) m (omega arith))
  where
    by_case : (b : Bool) → count_from set c ≡ one_if b + count_from set (suc c) → length (members_from set (suc c) m) ≡ count_from set (suc c) → length (cond b (c ∷ members_from set (suc c) m) (members_from set (suc c) m)) ≡ count_from set c
    by_case true e f = omega arith
    by_case false e f = omega arith

-- how many members a set has
pub length-members : (set : List Bool) → length (members set) ≡ count_from set 0
length-members set = ap length (members_below_is set (length set)) ∙ length-members_from set 0 (length set) (omega arith)
