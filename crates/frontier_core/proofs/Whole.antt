-- Where no family failed, what the ended families closed is, as often, the proof tree.
use Rattle.std.proofs.Common.{◌≡◌, ℕ, ◌+◌, List, [], ◌∷◌, ◌++◌, length, refl, sym, ap, subst, arith, sum_by, All}
use Rattle.std.proofs.lemmas.Bool.{true≢false}
use Rattle.std.proofs.lemmas.List.{append-nil}
use Rattle.std.proofs.lemmas.List.Elements.{recursion_from_All}
use Rattle.std.proofs.lemmas.List.Sums.{sum_by-append, sum_by-cons}
use Rattle.std.specs.List.{flat_map, AllByRecursion}
use Rattle.expr_table.specs.declared.instance.Instance.{Instance}
use Rattle.probe_family.specs.declared.ending.Closed.{Closed}
use Rattle.probe_family.specs.declared.ending.Ended.{Ended}
use Rattle.probe_family.specs.declared.ending.Ending.{Ending}
use Rattle.probe_family.specs.declared.ending.Ending.TheVariants.{Proved, Failed, Beyond}
use Rattle.probe_family.specs.declared.family.Family.{Family}
use Rattle.probe_family.specs.Families.{IsFamily}
use Rattle.probe_family.specs.Roots.{roots_of}
use Rattle.family_split.specs.Children.{children_of}
use Rattle.probe_family.specs.Often.{AsOften, families_of}
use Rattle.frontier_core.specs.Balance.{Balanced, EndsRight, failed_rank, failed_ranks, given_by, given_of}
use Rattle.frontier_core.specs.Closings.{closing_of, closings_of}
use Rattle.frontier_core.specs.Tree.{closed_under, tree_of, under}
use Rattle.frontier_core.proofs.Bounds.{first_All, mapped_All}
use Rattle.frontier_core.proofs.Sums.{sum-flat_map}
use Rattle.frontier_core.proofs.Trees.{under_hull}

none_later : (how : Ending) (ranks : List ℕ) → failed_rank how ++ ranks ≡ [] → ranks ≡ []
none_later (Proved hull) ranks none = none
none_later (Failed rank) ranks none = absurd (cc none)
none_later (Beyond best) ranks none = none

module _ (x : Instance) (t : ℕ) (h : Closed → ℕ) where
  -- what a family gives, weighed
  abbrev gives : Family → ℕ
  gives f = sum_by h (under x f)

  -- a family gives what is closed of it, and then what its children give
  one_gives : (f : Family) (how : Ending) (ranks : List ℕ) → IsFamily (length x.probes) f → EndsRight x t [] f how → failed_rank how ++ ranks ≡ [] → gives f ≡ sum_by h (closing_of f how) + sum_by gives (given_by f how)
  one_gives f (Proved hull) ranks is right none =
      omega (
        arith,
        ap (sum_by h) (under_hull x f hull is right),
        sum_by-cons h (closed_under f hull) (flat_map (under x) (children_of f hull)),
        sum_by-cons h (closed_under f hull) [],
        sum-flat_map h (under x) (children_of f hull),
      )
  one_gives f (Failed rank) ranks is right none = absurd (cc none)
  one_gives f (Beyond best) ranks is right none = absurd (true≢false (sym right.0))

  all_give : (es : List Ended) → AllByRecursion (λ (e : Ended). IsFamily (length x.probes) e.family) es → AllByRecursion (λ (e : Ended). EndsRight x t [] e.family e.how) es → failed_ranks es ≡ [] → sum_by gives (families_of es) ≡ sum_by h (closings_of es) + sum_by gives (given_of es)
  all_give [] are right none = refl
  all_give (e ∷ es) are right none =
      omega (
        arith,
        sum_by-cons gives e.family (families_of es),
        sum_by-append h (closing_of e.family e.how) (closings_of es),
        sum_by-append gives (given_by e.family e.how) (given_of es),
        one_gives e.family e.how (failed_ranks es) are.0 right.0 none,
        all_give es are.1 right.1 (none_later e.how (failed_ranks es) none),
      )

-- what was closed is what the roots give
pub closes_tree : (x : Instance) (t : ℕ) (ended : List Ended) → Balanced x t [] ended → failed_ranks ended ≡ [] → AsOften (closings_of ended) (tree_of x t)
unfolding tree_of
closes_tree x t ended balanced none h =
    omega (
      arith,
      all_give x t h ended
          (mapped_All (IsFamily (length x.probes)) (λ (e : Ended). e.family) ended (first_All (IsFamily (length x.probes)) (families_of ended) [] (recursion_from_All (IsFamily (length x.probes)) (families_of ended ++ []) balanced.families)))
          (recursion_from_All (λ (e : Ended). EndsRight x t [] e.family e.how) ended (subst (λ ranks. All (λ (e : Ended). EndsRight x t ranks e.family e.how) ended) none balanced.right))
          none,
      balanced.as_often (λ f. sum_by h (under x f)),
      ap (sum_by (λ f. sum_by h (under x f))) (append-nil (families_of ended)),
      sum_by-append (λ f. sum_by h (under x f)) (roots_of x t) (given_of ended),
      sum-flat_map h (under x) (roots_of x t),
    )
