-- A family has fewer children than there are sets of as many numbers as its tuples have.
use Rattle.std.proofs.Common.{◌≡◌, ℕ, zero, suc, ◌+◌, ◌^◌, ◌<◌, ◌≤◌, Bool, true, false, cond, List, [], ◌∷◌, length, map, filter, sym, ap, subst, arith, length-append}
use Rattle.std.proofs.Math.Nat.{pow-le-pow_right}
use Rattle.std.proofs.lemmas.List.{length-map}
use Rattle.std.proofs.lemmas.List.Sums.{sum_by-cons}
use Rattle.std.specs.List.{flat_map, list_all}
use Rattle.probe_family.specs.declared.part.Part.{Part}
use Rattle.probe_family.specs.declared.family.Family.{Family}
use Rattle.probe_family.specs.Families.{IsFamily, family_over, has_enough, takes_some, total_take}
use Rattle.family_split.specs.Children.{child_of, children_of, down_from, insides, split_parts}
use Rattle.family_split.specs.Later.{later, takes_of}
use Rattle.family_split.proofs.Insides.{insides_are, others_are_later}

twice : (k : ℕ) → 2 ^ suc k ≡ 2 ^ k + 2 ^ k
twice k = omega arith

pow_up : (m k : ℕ) → m ≤ k → 2 ^ m ≤ 2 ^ k
pow_up m k le = pow-le-pow_right (let some : 0 < 2 = omega arith in some) le

-- a number from n down before each of some lists
before_each : (m n k : ℕ) (xs : List (List ℕ)) → length xs ≤ 2 ^ m → k ≡ n + m → length (flat_map (λ j. map (λ js. j ∷ js) xs) (down_from n)) ≤ 2 ^ k
before_each m zero k xs le e =
    let same : k ≡ m = omega (arith, e) in
    let more : 2 ^ m ≤ 2 ^ k = ap_le same in
    omega (arith, length-append (map (λ js. 0 ∷ js) xs) [], length-map xs (λ js. 0 ∷ js), le, more)
  where
    ap_le : k ≡ m → 2 ^ m ≤ 2 ^ k
    ap_le same = pow_up m k (omega (arith, same))
before_each m (suc n) zero xs le e = absurd (omega (arith, e))
before_each m (suc n) (suc k) xs le e =
    let g : ℕ → List (List ℕ) = λ j. map (λ js. j ∷ js) xs in
    let rest : length (flat_map g (down_from n)) ≤ 2 ^ k = before_each m n k xs le (omega (arith, e)) in
    let up : 2 ^ m ≤ 2 ^ k = pow_up m k (omega (arith, e)) in
    let both : length (flat_map g (down_from (suc n))) ≡ length (g (suc n)) + length (flat_map g (down_from n)) = length-append (g (suc n)) (flat_map g (down_from n)) in
    omega (arith, both, length-map xs (λ js. suc n ∷ js), rest, up, le, twice k)

insides_few : (parts : List Part) → length (insides parts) ≤ 2 ^ total_take parts
insides_few [] = omega arith
insides_few (part ∷ parts) = before_each (total_take parts) part.take (total_take (part ∷ parts)) (insides parts) (insides_few parts) (sum_by-cons (λ (p : Part). p.take) part parts)

at_most_one : (size bound : ℕ) (parts : List Part) → length (family_over size bound parts) ≤ 1
at_most_one size bound parts = by_case (list_all has_enough parts)
  where
    one : List Family
    one = record { size = size; bound = bound; parts = filter takes_some parts } ∷ []

    by_case : (b : Bool) → length (cond b one []) ≤ 1
    by_case true = omega arith
    by_case false = omega arith

each_one : (family : Family) (hull : List Bool) (xs : List (List ℕ)) → length (flat_map (child_of family hull) xs) ≤ length xs
each_one family hull [] = omega arith
each_one family hull (js ∷ xs) =
    omega (
      arith,
      length-append (child_of family hull js) (flat_map (child_of family hull) xs),
      at_most_one family.size family.bound (split_parts hull family.parts js),
      each_one family hull xs,
    )

pub children_few : (n : ℕ) (family : Family) (hull : List Bool) → IsFamily n family → length (children_of family hull) < 2 ^ family.size
unfolding children_of
children_few n family hull is =
    let others = later family.parts (takes_of family.parts) in
    let all : suc (length others) ≤ 2 ^ family.size =
    subst (λ size. suc (length others) ≤ 2 ^ size) is.size (subst (λ l. l ≤ 2 ^ total_take family.parts) (ap length (insides_are family.parts)) (insides_few family.parts)) in
    let each : length (flat_map (child_of family hull) others) ≤ length others = each_one family hull others in
    subst (λ l. length (flat_map (child_of family hull) l) < 2 ^ family.size) (sym (others_are_later family.parts)) (omega (arith, all, each))
