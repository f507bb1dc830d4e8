-- What families give, and the families that a search of them goes through.
use Rattle.std.proofs.Common.{◌≡◌, ℕ, zero, suc, ◌<◌, ◌≤◌, Bool, List, [], ◌∷◌, ◌++◌, length, refl, sym, ap, ◌∙◌, arith, Option, None, Some, ⊎_elim, count_by}
use Rattle.std.proofs.lemmas.Bool.{cases_Bool, cond-false}
use Rattle.std.specs.List.{find, flat_map, AllByRecursion}
use Rattle.std.specs.Option.{option_map_or}
use Rattle.expr_table.specs.declared.instance.Instance.{Instance}
use Rattle.tuple_rank.specs.Tuples.{tuples}
use Rattle.probe_family.specs.declared.ending.Closed.{Closed}
use Rattle.probe_family.specs.declared.family.Family.{Family}
use Rattle.probe_family.specs.Families.{IsFamily, is_tuple_of, weight_of}
use Rattle.probe_family.specs.Least.{least_of}
use Rattle.probe_family.proofs.AllTuples.{first_of_tuples, weight_in_tuples}
use Rattle.probe_family.proofs.Bits.{one_if, count_cons}
use Rattle.family_split.specs.Children.{HasInside, children_of}
use Rattle.family_split.proofs.Fewer.{children_are_lighter}
use Rattle.family_split.proofs.Partition.{children_are}
use Rattle.extend_set.specs.Hull.{hull_by, hull_of}
use Rattle.extend_set.proofs.Hulls.{by_is, by_least, least_inside}
use Rattle.frontier_core.specs.Tree.{closed_under, under_within, under, under_by}
use Rattle.frontier_core.proofs.Hulls.{hull_inside}
use Rattle.frontier_core.proofs.Walks.{walk, walk_on}

-- what is found is counted
found_counts : {X : Type 0} (p : X → Bool) (xs : List X) (x : X) → find p xs ≡ Some x → 1 ≤ count_by p xs
found_counts p [] x found = absurd (cc found)
found_counts p (y ∷ ys) x found = let all = count_cons p y ys in ⊎_elim
    (λ yes. let one = ap one_if yes in omega arith)
    (λ no. let rest = found_counts p ys x (sym (cond-false (p y) (Some y) (find p ys) no) ∙ found) in omega arith)
    (cases_Bool (p y))

pub some_weight : (n : ℕ) (family : Family) → IsFamily n family → 1 ≤ weight_of n family
some_weight n family is =
    let le : family.size ≤ family.size = omega arith in
    let counted = found_counts (is_tuple_of family) (tuples n family.size) (least_of family) (first_of_tuples n family.size family is le) in
    omega (arith, weight_in_tuples n family.size family is le)

flat_map_all : {A : Type 0} (f h : Family → List A) → ((g : Family) → f g ≡ h g) → (gs : List Family) → flat_map f gs ≡ flat_map h gs
flat_map_all f h same [] = refl
flat_map_all f h same (g ∷ gs) = ap (λ l. l ++ flat_map f gs) (same g) ∙ ap (λ l. h g ++ l) (flat_map_all f h same gs)

-- the children under the hull; none where there is no hull
abbrev pub next_by : (Family → Option (List Bool)) → Family → List Family
next_by hulls family = option_map_or (children_of family) (hulls family) []

-- the family closed under its hull; nothing where there is none
abbrev closed_by : (Family → Option (List Bool)) → Family → List Closed
closed_by hulls family = option_map_or (λ hull. closed_under family hull ∷ []) (hulls family) []

-- each hull has enough of its family's numbers
abbrev HaveInside : (Family → Option (List Bool)) → ℕ → Type 0
HaveInside hulls n = (family : Family) → IsFamily n family → (hull : List Bool) → hulls family ≡ Some hull → HasInside hull family

module _ (hulls : Family → Option (List Bool)) (n : ℕ) where
  under_is_walk : (k : ℕ) (family : Family) → under_within hulls k family ≡ walk (closed_by hulls) (next_by hulls) k family
  under_is_walk zero family = refl
  under_is_walk (suc k) family =
      step (hulls family) ∙ ap (λ l. closed_by hulls family ++ l) (flat_map_all (under_within hulls k) (walk (closed_by hulls) (next_by hulls) k) (under_is_walk k) (next_by hulls family))
    where
      step : (o : Option (List Bool)) → option_map_or (λ hull. closed_under family hull ∷ flat_map (under_within hulls k) (children_of family hull)) o []
          ≡ option_map_or (λ hull. closed_under family hull ∷ []) o [] ++ flat_map (under_within hulls k) (option_map_or (children_of family) o [])
      step None = refl
      step (Some hull) = refl

  -- what the family gives in as many generations as it has tuples
  abbrev all_under : Family → List Closed
  all_under family = under_within hulls (weight_of n family) family

  module _ (inside : HaveInside hulls n) where
    next_are_lighter : (family : Family) → IsFamily n family → AllByRecursion (λ g. (weight_of n g < weight_of n family) × IsFamily n g) (next_by hulls family)
    next_are_lighter family is = by_hull (hulls family) refl
      where
        both : (gs : List Family) → AllByRecursion (λ g. weight_of n g < weight_of n family) gs → AllByRecursion (IsFamily n) gs → AllByRecursion (λ g. (weight_of n g < weight_of n family) × IsFamily n g) gs
        both [] less are = tt
        both (g ∷ gs) less are = ((less.0, are.0), both gs less.1 are.1)

        by_hull : (o : Option (List Bool)) → hulls family ≡ o → AllByRecursion (λ g. (weight_of n g < weight_of n family) × IsFamily n g) (option_map_or (children_of family) o [])
        by_hull None e = tt
        by_hull (Some hull) e =
            both (children_of family hull) (children_are_lighter n family hull is (inside family is hull e)) (children_are n family hull is)

    all_on : (family : Family) → IsFamily n family → all_under family ≡ closed_by hulls family ++ flat_map all_under (next_by hulls family)
    all_on family is =
        under_is_walk (weight_of n family) family
        ∙ (walk_on (closed_by hulls) (next_by hulls) (weight_of n) (IsFamily n) (some_weight n) next_are_lighter (weight_of n family) family is refl
        ∙ ap (λ l. closed_by hulls family ++ l) (flat_map_all (λ g. walk (closed_by hulls) (next_by hulls) (weight_of n g) g) all_under (λ g. sym (under_is_walk (weight_of n g) g)) (next_by hulls family)))

    all_hull : (family : Family) (hull : List Bool) → IsFamily n family → hulls family ≡ Some hull → all_under family ≡ closed_under family hull ∷ flat_map all_under (children_of family hull)
    all_hull family hull is found =
        all_on family is ∙ ap (λ o. option_map_or (λ h. closed_under family h ∷ []) o [] ++ flat_map all_under (option_map_or (children_of family) o [])) found

    all_none : (family : Family) → IsFamily n family → hulls family ≡ None → all_under family ≡ []
    all_none family is none =
        all_on family is ∙ ap (λ o. option_map_or (λ h. closed_under family h ∷ []) o [] ++ flat_map all_under (option_map_or (children_of family) o [])) none

-- ---- by any criterion

module _ (meets : ℕ → List ℕ → Bool) (n : ℕ) where
  abbrev hulls_by : Family → Option (List Bool)
  hulls_by family = hull_by (meets family.bound) n family

  by_inside : HaveInside hulls_by n
  by_inside family is hull found = least_inside n family is hull (by_least (meets family.bound) n family hull (by_is (meets family.bound) n family hull found) is)

  pub by_hull : (family : Family) (hull : List Bool) → IsFamily n family → hull_by (meets family.bound) n family ≡ Some hull → under_by meets n family ≡ closed_under family hull ∷ flat_map (under_by meets n) (children_of family hull)
  unfolding under_by
  by_hull family hull is found = all_hull hulls_by n by_inside family hull is found

  pub by_none : (family : Family) → IsFamily n family → hull_by (meets family.bound) n family ≡ None → under_by meets n family ≡ []
  unfolding under_by
  by_none family is none = all_none hulls_by n by_inside family is none

-- ---- by what is provable

abbrev pub next_of : Instance → Family → List Family
next_of x family = next_by (hull_of x) family

hulls_inside : (x : Instance) → HaveInside (hull_of x) (length x.probes)
hulls_inside x family is hull found = hull_inside x family is hull found

pub under_hull : (x : Instance) (family : Family) (hull : List Bool) → IsFamily (length x.probes) family → hull_of x family ≡ Some hull → under x family ≡ closed_under family hull ∷ flat_map (under x) (children_of family hull)
unfolding under
under_hull x family hull is found = all_hull (hull_of x) (length x.probes) (hulls_inside x) family hull is found

pub under_none : (x : Instance) (family : Family) → IsFamily (length x.probes) family → hull_of x family ≡ None → under x family ≡ []
unfolding under
under_none x family is none = all_none (hull_of x) (length x.probes) (hulls_inside x) family is none

-- the family, its children, theirs and so on
unfoldable pub visits : Instance → Family → List Family
visits x family = walk (λ f. f ∷ []) (next_of x) (weight_of (length x.probes) family) family

pub visits_on : (x : Instance) (family : Family) → IsFamily (length x.probes) family → visits x family ≡ family ∷ flat_map (visits x) (next_of x family)
unfolding visits
visits_on x family is =
    walk_on (λ f. f ∷ []) (next_of x) (weight_of (length x.probes)) (IsFamily (length x.probes)) (some_weight (length x.probes))
    (next_are_lighter (hull_of x) (length x.probes) (hulls_inside x)) (weight_of (length x.probes) family) family is refl
