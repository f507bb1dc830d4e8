-- What holds of the roots, and of the children of each family of which it holds, holds of every family of a balanced
-- search: the families that are ended or wait are those that a search may have.
use Rattle.std.proofs.Common.{◌≡◌, ℕ, zero, suc, ◌+◌, ◌<◌, ◌≤◌, Bool, true, false, not, ◌&&◌, ◌||◌, eqb, nat_le, nat_lt, List, [], ◌∷◌, ◌++◌, length, map, refl, sym, ap, ◌∙◌, arith, sum_by, Some, ⊎_elim, inl, inr, ◌⊎◌}
use Rattle.std.proofs.lemmas.Bool.{true≢false, eq-eqb, eqb-true, le-leb, leb-true, le-ltb, ltb-false, or_cases}
use Rattle.std.proofs.lemmas.List.Elements.{recursion_from_All}
use Rattle.std.proofs.lemmas.List.Sums.{sum_by-append}
use Rattle.std.specs.List.{AllByRecursion}
use Rattle.expr_table.specs.declared.instance.Instance.{Instance}
use Rattle.once_random.specs.Tuples.{bound_of}
use Rattle.probe_family.specs.declared.ending.Ended.{Ended}
use Rattle.probe_family.specs.declared.ending.Ending.{Ending}
use Rattle.probe_family.specs.declared.ending.Ending.TheVariants.{Proved, Failed, Beyond}
use Rattle.probe_family.specs.declared.family.Family.{Family}
use Rattle.probe_family.specs.Families.{IsFamily, is_tuple_of, weight_of}
use Rattle.probe_family.specs.Roots.{roots_of}
use Rattle.probe_family.proofs.Bits.{one_if}
use Rattle.probe_family.proofs.Ranges.{weaken_All}
use Rattle.probe_family.proofs.RootTuples.{each_bound, each_size}
use Rattle.family_split.specs.Children.{children_of}
use Rattle.family_split.proofs.Fewer.{children_are_lighter}
use Rattle.family_split.proofs.Partition.{IsLike, children_are_like, children_have}
use Rattle.extend_set.specs.Hull.{hull_of}
use Rattle.probe_family.specs.Often.{families_of}
use Rattle.frontier_core.specs.Balance.{Balanced, EndsRight, failed_ranks, given_by, given_of}
use Rattle.frontier_core.specs.Search.{IsSearched}
use Rattle.frontier_core.proofs.Hulls.{hull_inside}
use Rattle.frontier_core.proofs.Sums.{sum-flat_map, sum-zero, terms-le, zero-sum}

module _ {X : Type 0} (P : X → Type 0) where
  pub first_All : (xs ys : List X) → AllByRecursion P (xs ++ ys) → AllByRecursion P xs
  first_All [] ys all = tt
  first_All (x ∷ xs) ys all = (all.0, first_All xs ys all.1)

pub mapped_All : {X Y : Type 0} (P : Y → Type 0) (f : X → Y) (xs : List X) → AllByRecursion P (map f xs) → AllByRecursion (λ x. P (f x)) xs
mapped_All P f [] all = tt
mapped_All P f (x ∷ xs) all = (all.0, mapped_All P f xs all.1)

left_none : (a b : Bool) → a ≡ true → one_if (not a && b) ≡ 0
left_none a b is = ap (λ c. one_if (not c && b)) is

right_none : (a b : Bool) → b ≡ false → one_if (not a && b) ≡ 0
right_none true b is = refl
right_none false b is = ap one_if is

none_why : (a b : Bool) → one_if (not a && b) ≡ 0 → (a ≡ true) ⊎ (b ≡ false)
none_why true b none = inl refl
none_why false true none = absurd (omega arith)
none_why false false none = inr refl

module _ (x : Instance) (t : ℕ) (waiting : List Family) (ended : List Ended) (balanced : Balanced x t waiting ended) where
  abbrev all_families : List Family
  all_families = families_of ended ++ waiting

  abbrev weight : Family → ℕ
  weight f = weight_of (length x.probes) f

  -- more than no family weighs
  abbrev most : ℕ
  most = sum_by weight all_families

  are_families : AllByRecursion (IsFamily (length x.probes)) all_families
  are_families = recursion_from_All (IsFamily (length x.probes)) all_families balanced.families

  module _ (good : Family → Bool) (roots_good : AllByRecursion (λ f. good f ≡ true) (roots_of x t)) (children_good : (f : Family) (hull : List Bool) → IsFamily (length x.probes) f → hull_of x f ≡ Some hull → good f ≡ true → AllByRecursion (λ c. good c ≡ true) (children_of f hull)) where
    -- 1 for a family that is not good and lacks no more than m of the most weight
    abbrev bad : ℕ → Family → ℕ
    bad m f = one_if (not (good f) && nat_lt most (weight f + m))

    -- where the greater families are good, so is what each of them gives
    gives_good : (m : ℕ) (ranks : List ℕ) (f : Family) (how : Ending) → IsFamily (length x.probes) f → EndsRight x t ranks f how → bad m f ≡ 0 → sum_by (bad (suc m)) (given_by f how) ≡ 0
    gives_good m ranks f (Proved hull) is right none =
        sum-zero (bad (suc m)) (children_of f hull) (⊎_elim
        (λ (fine : good f ≡ true). weaken_All (λ c. good c ≡ true) (λ c. bad (suc m) c ≡ 0) (λ c. left_none (good c) (nat_lt most (weight c + suc m))) (children_of f hull) (children_good f hull is right fine))
        (λ (light : nat_lt most (weight f + m) ≡ false). let low = ltb-false most (weight f + m) light in
        weaken_All (λ c. weight c < weight f) (λ c. bad (suc m) c ≡ 0) (λ c less. right_none (good c) (nat_lt most (weight c + suc m)) (le-ltb most (weight c + suc m) (omega arith)))
        (children_of f hull) (children_are_lighter (length x.probes) f hull is (hull_inside x f is hull right)))
        (none_why (good f) (nat_lt most (weight f + m)) none))
    gives_good m ranks f (Failed rank) is right none = refl
    gives_good m ranks f (Beyond best) is right none = refl

    all_give_good : (m : ℕ) (ranks : List ℕ) (es : List Ended) → AllByRecursion (λ (e : Ended). IsFamily (length x.probes) e.family) es → AllByRecursion (λ (e : Ended). EndsRight x t ranks e.family e.how) es → AllByRecursion (λ (e : Ended). bad m e.family ≡ 0) es → AllByRecursion (λ (e : Ended). sum_by (bad (suc m)) (given_by e.family e.how) ≡ 0) es
    all_give_good m ranks [] are right none = tt
    all_give_good m ranks (e ∷ es) are right none = (gives_good m ranks e.family e.how are.0 right.0 none.0, all_give_good m ranks es are.1 right.1 none.1)

    none_bad : (m : ℕ) → sum_by (bad m) all_families ≡ 0
    none_bad zero =
        sum-zero (bad zero) all_families (weaken_All (λ f. weight f ≤ most) (λ f. bad zero f ≡ 0) (λ f le. right_none (good f) (nat_lt most (weight f + zero)) (le-ltb most (weight f + zero) (omega arith))) all_families (terms-le weight all_families))
    none_bad (suc m) =
        let none = zero-sum (bad m) all_families (none_bad m) in
        let in_given : sum_by (bad (suc m)) (given_of ended) ≡ 0 =
        sum-flat_map (bad (suc m)) (λ (e : Ended). given_by e.family e.how) ended
        ∙ sum-zero (λ (e : Ended). sum_by (bad (suc m)) (given_by e.family e.how)) ended
        (all_give_good m (failed_ranks ended) ended
        (mapped_All (IsFamily (length x.probes)) (λ (e : Ended). e.family) ended (first_All (IsFamily (length x.probes)) (families_of ended) waiting are_families))
        (recursion_from_All (λ (e : Ended). EndsRight x t (failed_ranks ended) e.family e.how) ended balanced.right)
        (mapped_All (λ f. bad m f ≡ 0) (λ (e : Ended). e.family) ended (first_All (λ f. bad m f ≡ 0) (families_of ended) waiting none))) in
        let in_roots : sum_by (bad (suc m)) (roots_of x t) ≡ 0 =
        sum-zero (bad (suc m)) (roots_of x t) (weaken_All (λ f. good f ≡ true) (λ f. bad (suc m) f ≡ 0) (λ f. left_none (good f) (nat_lt most (weight f + suc m))) (roots_of x t) roots_good) in
        omega (arith, balanced.as_often (bad (suc m)), sum_by-append (bad (suc m)) (roots_of x t) (given_of ended))

    pub all_good : AllByRecursion (λ f. good f ≡ true) all_families
    all_good =
        weaken_All (λ f. bad (suc most) f ≡ 0) (λ f. good f ≡ true)
        (λ f none. ⊎_elim (λ fine. fine) (λ light. let low = ltb-false most (weight f + suc most) light in absurd (omega arith)) (none_why (good f) (nat_lt most (weight f + suc most)) none))
        all_families (zero-sum (bad (suc most)) all_families (none_bad (suc most)))

  -- the tuple, where it is one of the family's, has the family's bound
  abbrev has_bound : List ℕ → Family → Bool
  has_bound tuple f = not (is_tuple_of f tuple) || eqb f.bound (bound_of x tuple)

  bound_from : (tuple : List ℕ) (f : Family) → has_bound tuple f ≡ true → is_tuple_of f tuple ≡ true → f.bound ≡ bound_of x tuple
  bound_from tuple f bound has = ⊎_elim
      (λ not_one. absurd (true≢false (sym not_one ∙ ap not has)))
      (λ same. eqb-true f.bound (bound_of x tuple) same)
      (or_cases (not (is_tuple_of f tuple)) (eqb f.bound (bound_of x tuple)) bound)

  bound_for : (tuple : List ℕ) (f : Family) → (is_tuple_of f tuple ≡ true → f.bound ≡ bound_of x tuple) → has_bound tuple f ≡ true
  bound_for tuple f bound = by_case (is_tuple_of f tuple) refl
    where
      or_true : (b : Bool) → (b || true) ≡ true
      or_true true = refl
      or_true false = refl

      by_case : (b : Bool) → is_tuple_of f tuple ≡ b → (not b || eqb f.bound (bound_of x tuple)) ≡ true
      by_case false e = refl
      by_case true e = eq-eqb f.bound (bound_of x tuple) (bound e)

  all_small : AllByRecursion (λ f. nat_le f.size t ≡ true) all_families
  all_small = all_good (λ f. nat_le f.size t)
      (weaken_All (λ (f : Family). f.size ≤ t) (λ (f : Family). nat_le f.size t ≡ true) (λ f le. le-leb f.size t le) (roots_of x t) (each_size x t))
      (λ f hull is found small. weaken_All (IsLike f) (λ (c : Family). nat_le c.size t ≡ true) (λ c like. ap (λ k. nat_le k t) like.0 ∙ small) (children_of f hull) (children_are_like f hull))

  all_bounds : (tuple : List ℕ) → AllByRecursion (λ f. has_bound tuple f ≡ true) all_families
  all_bounds tuple = all_good (has_bound tuple)
      (weaken_All (λ (f : Family). is_tuple_of f tuple ≡ true → f.bound ≡ bound_of x tuple) (λ f. has_bound tuple f ≡ true) (λ f. bound_for tuple f) (roots_of x t) (each_bound x tuple t))
      (λ f hull is found bound. both f bound (children_of f hull) (children_are_like f hull) (children_have (length x.probes) f hull tuple is))
    where
      both : (f : Family) → has_bound tuple f ≡ true → (cs : List Family) → AllByRecursion (IsLike f) cs → AllByRecursion (λ c. is_tuple_of c tuple ≡ true → is_tuple_of f tuple ≡ true) cs → AllByRecursion (λ c. has_bound tuple c ≡ true) cs
      both f bound [] like have = tt
      both f bound (c ∷ cs) like have = (bound_for tuple c (λ has. like.0.1 ∙ bound_from tuple f bound (have.0 has)), both f bound cs like.1 have.1)

  -- the families of a balanced search are such as a search has
  pub all_are_searched : AllByRecursion (IsSearched x t) all_families
  all_are_searched = together all_families are_families all_small all_bounds
    where
      together : (fs : List Family) → AllByRecursion (IsFamily (length x.probes)) fs → AllByRecursion (λ f. nat_le f.size t ≡ true) fs → ((tuple : List ℕ) → AllByRecursion (λ f. has_bound tuple f ≡ true) fs) → AllByRecursion (IsSearched x t) fs
      together [] are small bounds = tt
      together (f ∷ fs) are small bounds =
          (record { rules = are.0; small = leb-true f.size t small.0; bound = λ tuple has. bound_from tuple f (bounds tuple).0 has }, together fs are.1 small.1 (λ tuple. (bounds tuple).1))
