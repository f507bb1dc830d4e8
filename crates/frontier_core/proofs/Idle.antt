-- What the ended families of a balanced search say once no family waits.
use Rattle.std.proofs.Common.{◌≡◌, ℕ, ◌<◌, ◌≤◌, Bool, true, false, not, ◌&&◌, List, [], ◌∷◌, length, refl, sym, ap, ◌∙◌, subst, arith, sum_by, None, Some, ⊎_elim}
use Rattle.std.proofs.lemmas.Bool.{cases_Bool, cases_lt, true≢false}
use Rattle.std.proofs.lemmas.List.Elements.{recursion_from_All}
use Rattle.std.proofs.lemmas.List.Sums.{sum_by-append}
use Rattle.std.specs.List.{list_all, AllByRecursion}
use Rattle.bit_rows.specs.Sets.{is_in}
use Rattle.expr_table.specs.declared.instance.Instance.{Instance}
use Rattle.expr_table.specs.Instance.{IsFitting}
use Rattle.expr_table.specs.Table.{IsTable, has}
use Rattle.once_random.specs.Tuples.{is_proved}
use Rattle.once_random.proofs.Facts.{has-append_left, has-append_right, has_first}
use Rattle.tuple_rank.specs.Tuples.{IsTuple, rank_of}
use Rattle.probe_family.specs.declared.ending.Ended.{Ended}
use Rattle.probe_family.specs.declared.ending.Ending.{Ending}
use Rattle.probe_family.specs.declared.ending.Ending.TheVariants.{Proved, Failed, Beyond}
use Rattle.probe_family.specs.declared.family.Family.{Family}
use Rattle.probe_family.specs.Families.{is_tuple_of}
use Rattle.probe_family.specs.Least.{least_of}
use Rattle.probe_family.specs.Roots.{roots_of}
use Rattle.probe_family.proofs.AllTuples.{least_is_tuple}
use Rattle.probe_family.proofs.Bits.{one_if}
use Rattle.probe_family.proofs.RootTuples.{in_one_root}
use Rattle.family_split.proofs.Partition.{count_children}
use Rattle.probe_family.specs.Often.{families_of}
use Rattle.frontier_core.specs.Balance.{Balanced, EndsRight, failed_rank, failed_ranks, given_by, given_of}
use Rattle.frontier_core.specs.Search.{IsSearched, least_rank}
use Rattle.frontier_core.specs.Tree.{first_of}
use Rattle.frontier_core.proofs.Bounds.{all_are_searched, first_All, mapped_All}
use Rattle.frontier_core.proofs.First.{first_fails, none_fails}
use Rattle.frontier_core.proofs.Search.{least_is_below, least_is_tuple_of, lies_outside, within_is_proved}
use Rattle.frontier_core.proofs.Sums.{sum-flat_map, sum-map, sum-same}

module _ (x : Instance) (t : ℕ) (table : IsTable x.table) (fitting : IsFitting x) (ended : List Ended) (balanced : Balanced x t [] ended) where
  -- the ended families are such as a search has
  pub ended_are_searched : AllByRecursion (λ (e : Ended). IsSearched x t e.family) ended
  ended_are_searched = mapped_All (IsSearched x t) (λ (e : Ended). e.family) ended (first_All (IsSearched x t) (families_of ended) [] (all_are_searched x t [] ended balanced))

  module _ (tuple : List ℕ) (is : IsTuple (length x.probes) t tuple) (fails : is_proved x tuple ≡ false) (before : (rank : ℕ) → has (failed_ranks ended) rank ≡ true → rank_of (length x.probes) t tuple < rank) where
    abbrev count : Family → ℕ
    count f = one_if (is_tuple_of f tuple)

    none_has : (b : Bool) → (b ≡ true → ⊥) → one_if b ≡ 0
    none_has true never = absurd (never refl)
    none_has false never = refl

    -- a family that has the tuple hands it on
    hands_on : (f : Family) (how : Ending) → IsSearched x t f → EndsRight x t (failed_ranks ended) f how → ((rank : ℕ) → has (failed_rank how) rank ≡ true → has (failed_ranks ended) rank ≡ true) → count f ≡ sum_by count (given_by f how)
    hands_on f (Proved hull) searched right among =
        sym (count_children hull tuple (length x.probes) f searched.rules ∙ ap one_if (by_case (is_tuple_of f tuple) refl))
      where
        by_case : (b : Bool) → is_tuple_of f tuple ≡ b → (is_tuple_of f tuple && not (list_all (is_in hull) tuple)) ≡ is_tuple_of f tuple
        by_case true has_it = ap (λ b. is_tuple_of f tuple && not b) (lies_outside x t f hull tuple table fitting searched right has_it fails) ∙ (ap (λ b. b && true) has_it ∙ sym has_it)
        by_case false has_not = ap (λ b. b && not (list_all (is_in hull) tuple)) has_not ∙ sym has_not
    hands_on f (Failed rank) searched right among = none_has (is_tuple_of f tuple) (λ has_it.
        let below = least_is_below x t f tuple searched has_it in let after = before rank (among rank (one_has rank)) in let e = right.1 in omega arith)
      where
        one_has : (r : ℕ) → has (r ∷ []) r ≡ true
        one_has r = has_first r []
    hands_on f (Beyond best) searched right among = none_has (is_tuple_of f tuple) (λ has_it.
        let below = least_is_below x t f tuple searched has_it in let after = before best right.0 in let e = right.1 in omega arith)

    all_hand_on : (es : List Ended) → AllByRecursion (λ (e : Ended). IsSearched x t e.family) es → AllByRecursion (λ (e : Ended). EndsRight x t (failed_ranks ended) e.family e.how) es → ((rank : ℕ) → has (failed_ranks es) rank ≡ true → has (failed_ranks ended) rank ≡ true) → AllByRecursion (λ (e : Ended). count e.family ≡ sum_by count (given_by e.family e.how)) es
    all_hand_on [] searched right among = tt
    all_hand_on (e ∷ es) searched right among = (
      hands_on e.family e.how searched.0 right.0 (λ rank h. among rank (has-append_left (failed_rank e.how) (failed_ranks es) rank h)),
      all_hand_on es searched.1 right.1 (λ rank h. among rank (has-append_right (failed_rank e.how) (failed_ranks es) rank h)),
    )

    -- so a tuple before every one that failed is proved
    pub comes_no_earlier : ⊥
    comes_no_earlier =
        let handed : sum_by count (families_of ended) ≡ sum_by count (given_of ended) =
        sum-map count (λ (e : Ended). e.family) ended
        ∙ (sum-same (λ (e : Ended). count e.family) (λ (e : Ended). sum_by count (given_by e.family e.how)) ended
        (all_hand_on ended ended_are_searched (recursion_from_All (λ (e : Ended). EndsRight x t (failed_ranks ended) e.family e.how) ended balanced.right) (λ rank h. h))
        ∙ sym (sum-flat_map count (λ (e : Ended). given_by e.family e.how) ended)) in
        let one : sum_by count (roots_of x t) ≡ 1 = in_one_root x t tuple is in
        omega (arith, balanced.as_often count, sum_by-append count (families_of ended) [], sum_by-append count (roots_of x t) (given_of ended))

  -- where none failed, each tuple is proved
  pub none_failed : failed_ranks ended ≡ [] → first_of x t ≡ None
  none_failed none = none_fails x t (λ tuple is. ⊎_elim (λ passes. passes)
      (λ fails. absurd (comes_no_earlier tuple is fails (λ rank h. absurd (true≢false (sym (subst (λ l. has l rank ≡ true) none h))))))
      (cases_Bool (is_proved x tuple)))

  -- the least tuple of the family of the least failed rank is the first that is not proved
  pub least_failed : (f : Family) (rank : ℕ) → IsSearched x t f → EndsRight x t (failed_ranks ended) f (Failed rank) → ((other : ℕ) → has (failed_ranks ended) other ≡ true → rank ≤ other) → first_of x t ≡ Some (least_of f)
  least_failed f rank searched right least =
      first_fails x t (least_of f) (least_is_tuple_of x t f searched)
      (within_is_proved x t f (least_of f) searched (least_is_tuple (length x.probes) f searched.rules) ∙ right.0)
      (λ other is fails. ⊎_elim
      (λ earlier. absurd (comes_no_earlier other is fails (λ r h. let le = least r h in let e = right.1 in omega arith)))
      (λ le. let e = right.1 in omega arith)
      (cases_lt (rank_of (length x.probes) t other) (least_rank x t f)))
