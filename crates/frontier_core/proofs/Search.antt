-- What the families of a search hand on to their children, and where their tuples are.
use Rattle.std.proofs.Common.{◌≡◌, ℕ, ◌≤◌, Bool, true, false, ◌&&◌, ◌||◌, not, List, [], ◌∷◌, length, sym, ap, ◌∙◌, arith, None, Some, ⊎_elim, count_by}
use Rattle.std.proofs.lemmas.Bool.{cases_Bool, true≢false}
use Rattle.std.specs.List.{list_all, list_any, AllByRecursion}
use Rattle.bit_rows.specs.Sets.{is_in}
use Rattle.expr_table.specs.declared.instance.Instance.{Instance}
use Rattle.expr_table.specs.Instance.{IsFitting}
use Rattle.expr_table.specs.Table.{IsTable}
use Rattle.once_random.specs.Tuples.{bound_of, is_proved}
use Rattle.tuple_rank.specs.Tuples.{IsTuple, rank_of}
use Rattle.probe_family.specs.declared.family.Family.{Family}
use Rattle.probe_family.specs.Families.{IsFamily, is_tuple_of}
use Rattle.probe_family.specs.Least.{least_of}
use Rattle.probe_family.specs.Roots.{roots_of}
use Rattle.probe_family.proofs.AllTuples.{least_is_tuple, least_rank as least_rank_is_least, tuple_of_is_tuple}
use Rattle.probe_family.proofs.Bits.{one_if, count_cons}
use Rattle.probe_family.proofs.RootTuples.{each_root, each_size, each_bound, in_one_root}
use Rattle.family_split.specs.Children.{children_of}
use Rattle.family_split.proofs.Partition.{IsLike, children_are, children_are_like, children_have, count_children}
use Rattle.extend_set.specs.Hull.{hull_of, is_provable_within}
use Rattle.frontier_core.specs.Search.{IsSearched, least_rank}
use Rattle.frontier_core.proofs.Hulls.{hull_serves, no_hull}

-- what some of a list passes, one of them passes
any_counted : (p : Family → Bool) (fs : List Family) → 1 ≤ count_by p fs → list_any p fs ≡ true
any_counted p [] some = absurd (omega arith)
any_counted p (f ∷ fs) some = let all = count_cons p f fs in ⊎_elim
    (λ yes. ap (λ b. b || list_any p fs) yes)
    (λ no. let none = ap one_if no in ap (λ b. b || list_any p fs) no ∙ any_counted p fs (omega arith))
    (cases_Bool (p f))

-- the tuple is in one of the families
abbrev pub is_among : List ℕ → List Family → Bool
is_among tuple families = list_any (λ f. is_tuple_of f tuple) families

module _ (x : Instance) (t : ℕ) where
  abbrev n : ℕ
  n = length x.probes

  pub roots_are_searched : t ≤ 8 → AllByRecursion (IsSearched x t) (roots_of x t)
  roots_are_searched small = all (roots_of x t) (each_root x t small) (each_size x t) (λ tuple. each_bound x tuple t)
    where
      all : (fs : List Family) → AllByRecursion (IsFamily n) fs → AllByRecursion (λ (f : Family). f.size ≤ t) fs → ((tuple : List ℕ) → AllByRecursion (λ (f : Family). is_tuple_of f tuple ≡ true → f.bound ≡ bound_of x tuple) fs) → AllByRecursion (IsSearched x t) fs
      all [] are few bounds = tt
      all (f ∷ fs) are few bounds = (record { rules = are.0; small = few.0; bound = λ tuple. (bounds tuple).0 }, all fs are.1 few.1 (λ tuple. (bounds tuple).1))

  -- each tuple is in a root
  pub in_a_root : (tuple : List ℕ) → IsTuple n t tuple → is_among tuple (roots_of x t) ≡ true
  in_a_root tuple is = let one = in_one_root x t tuple is in any_counted (λ f. is_tuple_of f tuple) (roots_of x t) (omega arith)

  pub children_are_searched : (family : Family) (hull : List Bool) → IsSearched x t family → AllByRecursion (IsSearched x t) (children_of family hull)
  children_are_searched family hull is =
      all (children_of family hull) (children_are n family hull is.rules) (children_are_like family hull) (λ tuple. children_have n family hull tuple is.rules)
    where
      all : (fs : List Family) → AllByRecursion (IsFamily n) fs → AllByRecursion (IsLike family) fs → ((tuple : List ℕ) → AllByRecursion (λ f. is_tuple_of f tuple ≡ true → is_tuple_of family tuple ≡ true) fs) → AllByRecursion (IsSearched x t) fs
      all [] are like have = tt
      all (f ∷ fs) are like have = (
        record {
          rules = are.0;
          small = let size = like.0.0 in let few = is.small in omega arith;
          bound = λ tuple has. like.0.1 ∙ is.bound tuple ((have tuple).0 has);
        },
        all fs are.1 like.1 (λ tuple. (have tuple).1),
      )

  -- the family's bound is that of its tuples
  pub within_is_proved : (family : Family) (tuple : List ℕ) → IsSearched x t family → is_tuple_of family tuple ≡ true → is_proved x tuple ≡ is_provable_within x family.bound tuple
  unfolding is_proved
  within_is_proved family tuple is has = ap (λ m. is_provable_within x m tuple) (sym (is.bound tuple has))

  pub least_is_tuple_of : (family : Family) → IsSearched x t family → IsTuple n t (least_of family)
  least_is_tuple_of family is = (tuple_of_is_tuple n t family (least_of family) is.rules is.small (least_is_tuple n family is.rules)).0

  pub least_is_below : (family : Family) (tuple : List ℕ) → IsSearched x t family → is_tuple_of family tuple ≡ true → least_rank x t family ≤ rank_of n t tuple
  least_is_below family tuple is has = least_rank_is_least n t family tuple is.rules is.small has

  -- without a hull the least tuple is not proved
  pub least_fails : (family : Family) → IsSearched x t family → hull_of x family ≡ None → is_proved x (least_of family) ≡ false
  least_fails family is none = within_is_proved family (least_of family) is (least_is_tuple n family is.rules) ∙ no_hull x family none

  -- a tuple that is not proved lies outside the hull
  pub lies_outside : (family : Family) (hull : List Bool) (tuple : List ℕ) → IsTable x.table → IsFitting x → IsSearched x t family → hull_of x family ≡ Some hull → is_tuple_of family tuple ≡ true → is_proved x tuple ≡ false → list_all (is_in hull) tuple ≡ false
  lies_outside family hull tuple table fitting is found has fails = ⊎_elim
      (λ inside. absurd (true≢false (sym (within_is_proved family tuple is has ∙ hull_serves x family is.rules hull found tuple table fitting inside) ∙ fails)))
      (λ outside. outside)
      (cases_Bool (list_all (is_in hull) tuple))

  -- so it is in a child
  pub in_a_child : (family : Family) (hull : List Bool) (tuple : List ℕ) → IsTable x.table → IsFitting x → IsSearched x t family → hull_of x family ≡ Some hull → is_tuple_of family tuple ≡ true → is_proved x tuple ≡ false → is_among tuple (children_of family hull) ≡ true
  in_a_child family hull tuple table fitting is found has fails =
      let outside = lies_outside family hull tuple table fitting is found has fails in
      let one : count_by (λ child. is_tuple_of child tuple) (children_of family hull) ≡ 1 =
      count_children hull tuple n family is.rules ∙ (ap (λ b. one_if (is_tuple_of family tuple && not b)) outside ∙ ap (λ b. one_if (b && true)) has) in
      any_counted (λ child. is_tuple_of child tuple) (children_of family hull) (omega arith)
