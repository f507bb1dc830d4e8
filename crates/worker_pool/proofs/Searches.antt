-- A search takes a family from its stack, and then what the outcome of the work on it says.
use Rattle.std.proofs.Common.{◌≡◌, ℕ, ◌<◌, List, [], ◌∷◌, ◌++◌, length, reverse, sym, ap, ◌∙◌, subst, Option, Some}
use Rattle.std.proofs.lemmas.List.Elements.{All-head}
use Rattle.std.specs.Option.{option_map_or}
use Rattle.expr_table.specs.declared.instance.Instance.{Instance}
use Rattle.expr_table.specs.Instance.{IsFitting}
use Rattle.expr_table.specs.Table.{IsTable}
use Rattle.once_random.specs.Tuples.{is_proved}
use Rattle.tuple_rank.specs.Tuples.{IsTuple, rank_of}
use Rattle.probe_family.specs.declared.family.Family.{Family}
use Rattle.probe_family.specs.Families.{IsFamily}
use Rattle.family_split.specs.Children.{children_of}
use Rattle.frontier_core.specs.declared.one_family.Outcome.{Outcome}
use Rattle.frontier_core.specs.declared.one_family.Outcome.TheVariants.{Proved, Failed, Beyond}
use Rattle.frontier_core.specs.Search.{IsSearched}
use Rattle.frontier_core.specs.Work.{IsOutcome}
use Rattle.frontier_core.proofs.Trees.{next_of}
use Rattle.worker_pool.specs.declared.found.Found.{Found}
use Rattle.worker_pool.specs.declared.search.Search.{Search}
use Rattle.worker_pool.specs.Found.{best_of}
use Rattle.worker_pool.specs.Halfway.{Ends, HasFound, IsHalfway, waiting_of}
use Rattle.frontier_core.proofs.Stacks.{reverse_last, visits_left, fewer_left, fewer_with_next}
use Rattle.worker_pool.proofs.Steps.{proved, failed, left_alone}

module _ (x : Instance) (t : ℕ) where
  -- the family on top of a stack is searched next
  pub on_top : (items rest : List Family) (family : Family) (has : Found) → items ≡ rest ++ family ∷ [] → IsHalfway x t (reverse items) has → IsHalfway x t (family ∷ reverse rest) has
  on_top items rest family has e half = subst (λ l. IsHalfway x t l has) (ap reverse e ∙ reverse_last rest family) half

  pub top_is_searched : (waiting : List Family) (family : Family) (has : Found) → IsHalfway x t (family ∷ waiting) has → IsSearched x t family
  top_is_searched waiting family has half = All-head (IsSearched x t) family waiting half.searched

  pub goes_on : (family : Family) (outcome : Outcome) (old new : Search) → IsTable x.table → IsFitting x → IsHalfway x t (family ∷ waiting_of old) old.found → IsOutcome x t family (best_of old.found) outcome → Ends family outcome old new → IsHalfway x t (waiting_of new) new.found
  goes_on family (Proved hull children) old new table fitting half is ends =
      subst (λ l. IsHalfway x t l new.found) (sym (ends.0 ∙ ap (λ l. l ++ waiting_of old) is.2))
      (proved x t family hull (waiting_of old) old.found new.found table fitting is.1 ends.1 half)
  goes_on family (Failed tuple rank) old new table fitting half is ends =
      subst (λ l. IsHalfway x t l new.found) (sym ends.0)
      (failed x t family (waiting_of old) old.found new.found is.1 is.0 (ap best_of ends.1 ∙ ap (λ r. Some r) is.3)
      (λ w is_tuple fails. subst (HasFound x t w) (sym ends.1)
      (subst (IsTuple (length x.probes) t) (sym is.2) is_tuple, ap (is_proved x) is.2 ∙ fails, is.3 ∙ ap (rank_of (length x.probes) t) (sym is.2)))
      half)
  goes_on family (Beyond best) old new table fitting half is ends =
      subst (λ s. IsHalfway x t (waiting_of s) s.found) (sym ends) (left_alone x t family (waiting_of old) old.found best is.0 is.1 half)

  -- fewer families are left to go through
  pub goes_down : (family : Family) (outcome : Outcome) (old new : Search) (best : Option ℕ) → IsFamily (length x.probes) family → IsOutcome x t family best outcome → Ends family outcome old new → visits_left x (waiting_of new) < visits_left x (family ∷ waiting_of old)
  goes_down family (Proved hull children) old new best rules is ends =
      let next : next_of x family ≡ children.items = ap (λ o. option_map_or (children_of family) o []) is.1 ∙ sym is.2 in
      subst (λ l. visits_left x l < visits_left x (family ∷ waiting_of old)) (ap (λ l. l ++ waiting_of old) next ∙ sym ends.0) (fewer_with_next x family (waiting_of old) rules)
  goes_down family (Failed tuple rank) old new best rules is ends =
      subst (λ l. visits_left x l < visits_left x (family ∷ waiting_of old)) (sym ends.0) (fewer_left x family (waiting_of old) rules)
  goes_down family (Beyond rank) old new best rules is ends =
      subst (λ s. visits_left x (waiting_of s) < visits_left x (family ∷ waiting_of old)) (sym ends) (fewer_left x family (waiting_of old) rules)
