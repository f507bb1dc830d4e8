-- When events are allowed, as the code finds out, and what is left of them to show.
use Rattle.std.proofs.Common.{◌≡◌, ℕ, ◌<◌, ◌≤◌, Bool, true, false, not, ◌&&◌, ◌||◌, nat_le, eqb, List, [], ◌∷◌, refl, sym, ap, ◌∙◌, subst, Option, None, Some, Ok, Err, Result, All, is_none, is_some, ◌↔◌}
use Rattle.std.proofs.lemmas.Bool.{true≢false, and_parts, and_from, and_right, and_left, le-leb, lt-leb, cond-true, cond-false}
use Rattle.std.proofs.lemmas.List.Elements.{All-from_recursion, recursion_from_All}
use Rattle.std.specs.List.{list_all, list_any, AllByRecursion}
use Rattle.std.specs.Option.{option_map_or, IfSome}
use Rattle.std.specs.Result.{OnOk, OnErr}
use Rattle.expr_table.specs.declared.instance.Instance.{Instance}
use Rattle.expr_table.specs.Table.{has}
use Rattle.tuple_rank.specs.Tuples.{IsTuple}
use Rattle.probe_family.specs.declared.ending.Ending.{Ending}
use Rattle.probe_family.specs.declared.family.Family.{Family}
use Rattle.probe_family.specs.Families.{IsFamily}
use Rattle.probe_family.specs.Least.{least_of}
use Rattle.probe_family.proofs.AllTuples.{least_is_tuple, tuple_of_is_tuple}
use Rattle.extend_set.specs.Hull.{hull_of}
use Rattle.frontier_core.specs.declared.event.Event.{Event}
use Rattle.frontier_core.specs.declared.event.Event.TheVariants.{Proved, Failed, Beyond}
use Rattle.frontier_core.specs.declared.event.Stepped.TheVariants.{Done, NotAllowed}
use Rattle.frontier_core.specs.Balance.{failed_ranks}
use Rattle.frontier_core.specs.Core.{CoreState, IsCoreOf, after, answer_to, core_after, held_by, holds_one, is_allowed, is_least_provable, with_end, with_its_end}
use Rattle.frontier_core.specs.Search.{least_rank}
use Rattle.frontier_core.proofs.Cores.{event_keeps}
use Rattle.frontier_core.proofs.Hulls.{hull_provable, no_hull}

-- the least tuple of a family is a tuple of its numbers
pub least_tuple : (n t : ℕ) (family : Family) → IsFamily n family → family.size ≤ t → IsTuple n t (least_of family)
least_tuple n t family is small = (tuple_of_is_tuple n t family (least_of family) is small (least_is_tuple n family is)).0

-- the test of a list of numbers
pub any-has : (xs : List ℕ) (v : ℕ) → list_any (λ y. eqb y v) xs ≡ has xs v
any-has [] v = refl
any-has (y ∷ ys) v = ap (λ b. eqb y v || b) (any-has ys v)

pub all_none : {X : Type 0} (os : List (Option X)) → (list_all is_none os ≡ true) ↔ All (λ o. o ≡ None) os
all_none os = (λ is. All-from_recursion (λ o. o ≡ None) os (there os is), λ all. back os (recursion_from_All (λ o. o ≡ None) os all))
  where
    none_of : {X : Type 0} (o : Option X) → is_none o ≡ true → o ≡ None
    none_of None is = refl
    none_of (Some v) is = absurd (true≢false (sym is))

    there : {X : Type 0} (os : List (Option X)) → list_all is_none os ≡ true → AllByRecursion (λ o. o ≡ None) os
    there [] is = tt
    there (o ∷ os) is = let both = and_parts (is_none o) (list_all is_none os) is in (none_of o both.0, there os both.1)

    back : {X : Type 0} (os : List (Option X)) → AllByRecursion (λ o. o ≡ None) os → list_all is_none os ≡ true
    back [] all = refl
    back (o ∷ os) all = and_from (is_none o) (list_all is_none os) (ap is_none all.0) (back os all.1)

-- what a test of an option says of an equal one
pub none_from : {X : Type 0} (o h : Option X) → o ≡ h → is_some o ≡ false → None ≡ h
none_from None h same is = same
none_from (Some v) h same is = absurd (true≢false is)

pub some_from : {X : Type 0} (o h : Option X) → o ≡ h → is_some o ≡ true → (v : X) × (Some v ≡ h)
some_from None h same is = absurd (true≢false (sym is))
some_from (Some v) h same is = (v, same)

module _ (x : Instance) (t : ℕ) (core : CoreState) where
  pub is_done : (event : Event) → is_allowed x t core event ≡ true → Done ≡ answer_to x t core event
  is_done event allowed = sym (cond-true (is_allowed x t core event) Done NotAllowed allowed)

  pub is_refused : (event : Event) → is_allowed x t core event ≡ false → NotAllowed ≡ answer_to x t core event
  is_refused event refused = sym (cond-false (is_allowed x t core event) Done NotAllowed refused)

  pub core_done : (event : Event) (new : CoreState) → is_allowed x t core event ≡ true → new ≡ after x t core event → new ≡ core_after x t core event
  core_done event new allowed is = is ∙ sym (cond-true (is_allowed x t core event) (after x t core event) core allowed)

  pub core_stays : (event : Event) → is_allowed x t core event ≡ false → core ≡ core_after x t core event
  core_stays event refused = sym (cond-false (is_allowed x t core event) (after x t core event) core refused)

  -- the worker's family ends as it should, whichever way that is said
  pub same_end : (worker : ℕ) (family : Family) (one other : Family → Ending) (new : CoreState) → Some family ≡ held_by core worker → one family ≡ other family → new ≡ with_its_end core worker one → new ≡ with_its_end core worker other
  same_end worker family one other new has same is =
      is ∙ (ap (λ o. option_map_or (λ f. with_end core worker f (one f)) o core) (sym has)
      ∙ (ap (with_end core worker family) same ∙ ap (λ o. option_map_or (λ f. with_end core worker f (other f)) o core) has))

  pub passes : (worker : ℕ) (family : Family) (test : Family → Bool) (b : Bool) → Some family ≡ held_by core worker → test family ≡ b → holds_one core worker test ≡ b
  passes worker family test b has is = ap (λ o. option_map_or test o false) (sym has) ∙ is

  pub none_passes : (worker : ℕ) (test : Family → Bool) → held_by core worker ≡ None → holds_one core worker test ≡ false
  none_passes worker test none = ap (λ o. option_map_or test o false) none

  -- a family with a hull is proved, and no other
  pub may_prove : (worker : ℕ) (family : Family) (hull : List Bool) → Some family ≡ held_by core worker → Some hull ≡ hull_of x family → is_allowed x t core (Proved worker) ≡ true
  may_prove worker family hull has found = passes worker family (is_least_provable x) true has (hull_provable x family hull (sym found))

  pub may_not_prove : (worker : ℕ) (family : Family) → Some family ≡ held_by core worker → None ≡ hull_of x family → is_allowed x t core (Proved worker) ≡ false
  may_not_prove worker family has none = passes worker family (is_least_provable x) false has (no_hull x family (sym none))

  pub may_fail : (worker : ℕ) (family : Family) → Some family ≡ held_by core worker → None ≡ hull_of x family → is_allowed x t core (Failed worker) ≡ true
  may_fail worker family has none = passes worker family (λ f. not (is_least_provable x f)) true has (ap not (no_hull x family (sym none)))

  pub may_not_fail : (worker : ℕ) (family : Family) (hull : List Bool) → Some family ≡ held_by core worker → Some hull ≡ hull_of x family → is_allowed x t core (Failed worker) ≡ false
  may_not_fail worker family hull has found = passes worker family (λ f. not (is_least_provable x f)) false has (ap not (hull_provable x family hull (sym found)))

  -- a rank that failed and is at most the least one of the family
  pub may_pass : (worker best : ℕ) (family : Family) → Some family ≡ held_by core worker → has (failed_ranks core.ended) best ≡ true → best ≤ least_rank x t family → is_allowed x t core (Beyond worker best) ≡ true
  may_pass worker best family holds known le =
      passes worker family (λ f. has (failed_ranks core.ended) best && nat_le best (least_rank x t f)) true holds
      (and_from (has (failed_ranks core.ended) best) (nat_le best (least_rank x t family)) known (le-leb best (least_rank x t family) le))

  pub may_not_pass_unknown : (worker best : ℕ) (family : Family) → Some family ≡ held_by core worker → has (failed_ranks core.ended) best ≡ false → is_allowed x t core (Beyond worker best) ≡ false
  may_not_pass_unknown worker best family holds unknown =
      passes worker family (λ f. has (failed_ranks core.ended) best && nat_le best (least_rank x t f)) false holds
      (and_left (has (failed_ranks core.ended) best) (nat_le best (least_rank x t family)) unknown)

  pub may_not_pass_less : (worker best : ℕ) (family : Family) → Some family ≡ held_by core worker → least_rank x t family < best → is_allowed x t core (Beyond worker best) ≡ false
  may_not_pass_less worker best family holds less =
      passes worker family (λ f. has (failed_ranks core.ended) best && nat_le best (least_rank x t f)) false holds
      (and_right (has (failed_ranks core.ended) best) (nat_le best (least_rank x t family)) (lt-leb best (least_rank x t family) less))

  pub for_held : (P : Family → Type 0) (worker : ℕ) → ((family : Family) → held_by core worker ≡ Some family → P family) → IfSome (held_by core worker) P
  for_held P worker all = by_case (held_by core worker) refl
    where
      by_case : (o : Option Family) → held_by core worker ≡ o → IfSome o P
      by_case None e = tt
      by_case (Some family) e = all family e

  -- whether an event was done or memory was refused, the balance is kept
  pub kept_either : {A E : Type 0} (result : Result A E) (event : Event) (new : CoreState) → OnOk result (new ≡ core_after x t core event) → OnErr result (new ≡ core) → IsCoreOf x t core → IsCoreOf x t new
  kept_either (Ok a) event new done same is = subst (IsCoreOf x t) (sym (done)) (event_keeps x t core event is)
  kept_either (Err e) event new done same is = subst (IsCoreOf x t) (sym (same)) is
