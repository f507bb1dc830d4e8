-- What the events of a core keep.
use Rattle.std.proofs.Common.{◌≡◌, ℕ, zero, suc, ◌+◌, ◌<◌, ◌≤◌, Bool, true, false, not, ◌&&◌, cond, nat_le, nat_lt, List, [], ◌∷◌, ◌++◌, length, get_or, set, take, drop, replicate, refl, sym, ap, ◌∙◌, subst, arith, sum_by, Option, None, Some, ⊎_elim, is_none, unwrap_or}
use Rattle.std.proofs.lemmas.Bool.{true≢false, and_parts, leb-true, ltb-true, not-true}
use Rattle.std.proofs.lemmas.List.{append-nil}
use Rattle.std.proofs.lemmas.List.Elements.{All-from_recursion, recursion_from_All}
use Rattle.std.proofs.lemmas.List.Sums.{sum_by-append, sum_by-cons, sum_by-remove, sum_by-set}
use Rattle.std.proofs.lemmas.Option.{slice_get_cases, same_Some}
use Rattle.std.specs.List.{flat_map, remove, slice_get, AllByRecursion}
use Rattle.std.specs.Option.{option_map_or, option_to_list}
use Rattle.expr_table.specs.declared.instance.Instance.{Instance}
use Rattle.expr_table.specs.Table.{has}
use Rattle.probe_family.specs.declared.ending.Ended.{Ended}
use Rattle.probe_family.specs.declared.ending.Ending.{Ending}
use Rattle.probe_family.specs.declared.ending.Ending.TheVariants as ending
use Rattle.probe_family.specs.declared.family.Family.{Family}
use Rattle.probe_family.specs.Families.{IsFamily}
use Rattle.probe_family.specs.Roots.{roots_of}
use Rattle.probe_family.proofs.Ranges.{append_All}
use Rattle.probe_family.proofs.RootTuples.{each_root}
use Rattle.family_split.proofs.Partition.{children_are}
use Rattle.extend_set.specs.Hull.{hull_of}
use Rattle.frontier_core.specs.declared.event.Event.{Event}
use Rattle.frontier_core.specs.declared.event.Event.TheVariants.{Take, Proved, Failed, Beyond}
use Rattle.probe_family.specs.Often.{families_of}
use Rattle.frontier_core.specs.Balance.{Balanced, EndsRight, failed_ranks, given_by}
use Rattle.frontier_core.specs.Core.{CoreState, IsCoreOf, IsIdle, after, core_after, core_after_all, core_with, held_by, is_allowed, is_least_provable, waiting_in, with_end, with_its_end}
use Rattle.frontier_core.specs.Search.{IsSearched, least_rank}
use Rattle.frontier_core.proofs.Balances.{end_keeps, ended_so, waiting_moves}
use Rattle.frontier_core.proofs.Bounds.{all_are_searched, first_All}
use Rattle.frontier_core.proofs.Hulls.{hull_there}
use Rattle.frontier_core.proofs.Sums.{sum-flat_map}

-- ---- what workers hold

abbrev in_hand : List (Option Family) → List Family
in_hand held = flat_map (λ o. option_to_list o) held

pub nothing_in_hand : (workers : ℕ) → in_hand (replicate workers None) ≡ []
nothing_in_hand zero = refl
nothing_in_hand (suc workers) = nothing_in_hand workers

none_in_hand : (held : List (Option Family)) → AllByRecursion (λ o. o ≡ None) held → in_hand held ≡ []
none_in_hand [] none = refl
none_in_hand (o ∷ held) none = ap (λ p. option_to_list p ++ in_hand held) none.0 ∙ none_in_hand held none.1

pub held_below : (held : List (Option Family)) (worker : ℕ) (family : Family) → get_or held worker None ≡ Some family → worker < length held
held_below [] worker family has = absurd (cc has)
held_below (o ∷ held) zero family has = omega arith
held_below (o ∷ held) (suc worker) family has = let rest = held_below held worker family has in omega arith

-- a worker's hand changes
hand_set : (h : Family → ℕ) (held : List (Option Family)) (worker : ℕ) (o : Option Family) → worker < length held
    → sum_by h (in_hand (set held worker o)) + sum_by h (option_to_list (get_or held worker None)) ≡ sum_by h (in_hand held) + sum_by h (option_to_list o)
hand_set h held worker o lt =
    omega (
      arith,
      sum-flat_map h (λ p. option_to_list p) (set held worker o),
      sum-flat_map h (λ p. option_to_list p) held,
      sum_by-set (λ p. sum_by h (option_to_list p)) held worker o None lt,
    )

module _ (P : Family → Type 0) where
  second_All : (xs ys : List Family) → AllByRecursion P (xs ++ ys) → AllByRecursion P ys
  second_All [] ys all = all
  second_All (x ∷ xs) ys all = second_All xs ys all.1

  hand_All : (held : List (Option Family)) (worker : ℕ) (o : Option Family) → AllByRecursion P (option_to_list o) → AllByRecursion P (in_hand held) → AllByRecursion P (in_hand (set held worker o))
  hand_All [] worker o is all = all
  hand_All (p ∷ held) zero o is all = append_All P (option_to_list o) (in_hand held) is (second_All (option_to_list p) (in_hand held) all)
  hand_All (p ∷ held) (suc worker) o is all =
      append_All P (option_to_list p) (in_hand (set held worker o)) (first_All P (option_to_list p) (in_hand held) all) (hand_All held worker o is (second_All (option_to_list p) (in_hand held) all))

  held_All : (held : List (Option Family)) (worker : ℕ) (family : Family) → get_or held worker None ≡ Some family → AllByRecursion P (in_hand held) → P family
  held_All [] worker family has all = absurd (cc has)
  held_All (p ∷ held) zero family has all = (subst (λ o. AllByRecursion P (option_to_list o)) has (first_All P (option_to_list p) (in_hand held) all)).0
  held_All (p ∷ held) (suc worker) family has all = held_All held worker family has (second_All (option_to_list p) (in_hand held) all)

  place_All : (families : List Family) (place : ℕ) (family : Family) → slice_get families place ≡ Some family → AllByRecursion P families → P family
  place_All [] place family at all = absurd (cc at)
  place_All (f ∷ families) zero family at all = subst P (same_Some f family at) all.0
  place_All (f ∷ families) (suc place) family at all = place_All families place family at all.1

  remove_All : (families : List Family) (place : ℕ) → AllByRecursion P families → AllByRecursion P (remove families place)
  remove_All families place all = append_All P (take place families) (drop (suc place) families) (take_All place families all) (drop_All (suc place) families all)
    where
      take_All : (k : ℕ) (fs : List Family) → AllByRecursion P fs → AllByRecursion P (take k fs)
      take_All zero fs all = tt
      take_All (suc k) [] all = tt
      take_All (suc k) (f ∷ fs) all = (all.0, take_All k fs all.1)

      drop_All : (k : ℕ) (fs : List Family) → AllByRecursion P fs → AllByRecursion P (drop k fs)
      drop_All zero fs all = all
      drop_All (suc k) [] all = tt
      drop_All (suc k) (f ∷ fs) all = drop_All k fs all.1

pub is_none-true : {X : Type 0} (o : Option X) → is_none o ≡ true → o ≡ None
is_none-true None is = refl
is_none-true (Some v) is = absurd (true≢false (sym is))

-- what a worker has to hold
pub held_passes : (o : Option Family) (test : Family → Bool) → option_map_or test o false ≡ true → (family : Family) × (o ≡ Some family) × (test family ≡ true)
held_passes None test passes = absurd (true≢false (sym passes))
held_passes (Some family) test passes = (family, refl, passes)

-- ---- the core

module _ (x : Instance) (t : ℕ) where
  pub core_begins : (workers : ℕ) (waiting : List Family) (ended : List Ended) → Balanced x t waiting ended → IsCoreOf x t (core_with x t workers waiting ended)
  core_begins workers waiting ended balanced = record {
    roots = refl;
    balanced = subst (λ l. Balanced x t l ended) (sym (append-nil waiting) ∙ ap (λ l. waiting ++ l) (sym (nothing_in_hand workers))) balanced;
  }

  -- the same, for a core whose parts are known
  pub core_is : (roots opened waiting : List Family) (held : List (Option Family)) (ended : List Ended) (workers : ℕ) → roots ≡ roots_of x t → opened ≡ waiting → held ≡ replicate workers None → Balanced x t waiting ended
      → IsCoreOf x t (record { roots = roots; open_families = opened; held = held; ended = ended })
  core_is roots opened waiting held ended workers are_roots are_open none balanced = record {
    roots = are_roots;
    balanced = subst (λ l. Balanced x t l ended)
        (sym (ap (λ l. l ++ in_hand held) are_open ∙ (ap (λ l. waiting ++ in_hand l) none ∙ (ap (λ l. waiting ++ l) (nothing_in_hand workers) ∙ append-nil waiting)))) balanced;
  }

  pub roots_balance : t ≤ 8 → Balanced x t (roots_of x t) []
  roots_balance few = record {
    families = All-from_recursion (IsFamily (length x.probes)) (roots_of x t) (each_root x t few);
    as_often = λ h. ap (sum_by h) (sym (append-nil (roots_of x t)));
    right = λ k d lt. absurd (omega arith);
  }

  pub idle_waits : (core : CoreState) → IsIdle core → waiting_in core ≡ []
  idle_waits core idle =
      ap (λ l. l ++ in_hand core.held) idle.0 ∙ none_in_hand core.held (recursion_from_All (λ o. o ≡ None) core.held idle.1)

  -- the families of a core that are ended, open and held
  are_ended : (core : CoreState) → IsCoreOf x t core → AllByRecursion (IsFamily (length x.probes)) (families_of core.ended)
  are_ended core is = first_All (IsFamily (length x.probes)) (families_of core.ended) (waiting_in core) (recursion_from_All (IsFamily (length x.probes)) (families_of core.ended ++ waiting_in core) is.balanced.families)

  are_waiting : (core : CoreState) → IsCoreOf x t core → AllByRecursion (IsFamily (length x.probes)) (waiting_in core)
  are_waiting core is = second_All (IsFamily (length x.probes)) (families_of core.ended) (waiting_in core) (recursion_from_All (IsFamily (length x.probes)) (families_of core.ended ++ waiting_in core) is.balanced.families)

  pub held_is_family : (core : CoreState) (worker : ℕ) (family : Family) → IsCoreOf x t core → held_by core worker ≡ Some family → IsFamily (length x.probes) family
  held_is_family core worker family is has = held_All (IsFamily (length x.probes)) core.held worker family has (second_All (IsFamily (length x.probes)) core.open_families (in_hand core.held) (are_waiting core is))

  pub open_is_family : (core : CoreState) (place : ℕ) (family : Family) → IsCoreOf x t core → slice_get core.open_families place ≡ Some family → IsFamily (length x.probes) family
  open_is_family core place family is at = place_All (IsFamily (length x.probes)) core.open_families place family at (first_All (IsFamily (length x.probes)) core.open_families (in_hand core.held) (are_waiting core is))

  pub held_is_searched : (core : CoreState) (worker : ℕ) (family : Family) → IsCoreOf x t core → held_by core worker ≡ Some family → IsSearched x t family
  held_is_searched core worker family is has =
      held_All (IsSearched x t) core.held worker family has (second_All (IsSearched x t) core.open_families (in_hand core.held)
      (second_All (IsSearched x t) (families_of core.ended) (waiting_in core) (all_are_searched x t (waiting_in core) core.ended is.balanced)))

  -- the worker takes the family at a place
  takes : (core : CoreState) (worker place : ℕ) (family : Family) → worker < length core.held → held_by core worker ≡ None → slice_get core.open_families place ≡ Some family → place < length core.open_families → get_or core.open_families place family ≡ family → IsCoreOf x t core
      → IsCoreOf x t (record core { open_families = remove core.open_families place; held = set core.held worker (Some family) })
  takes core worker place family lt free at within same is =
      let opened : AllByRecursion (IsFamily (length x.probes)) core.open_families = first_All (IsFamily (length x.probes)) core.open_families (in_hand core.held) (are_waiting core is) in
      let hands : AllByRecursion (IsFamily (length x.probes)) (in_hand core.held) = second_All (IsFamily (length x.probes)) core.open_families (in_hand core.held) (are_waiting core is) in
      record {
        roots = is.roots;
        balanced = waiting_moves x t (waiting_in core) (remove core.open_families place ++ in_hand (set core.held worker (Some family))) core.ended
            (All-from_recursion (IsFamily (length x.probes)) (families_of core.ended ++ (remove core.open_families place ++ in_hand (set core.held worker (Some family))))
            (append_All (IsFamily (length x.probes)) (families_of core.ended) (remove core.open_families place ++ in_hand (set core.held worker (Some family))) (are_ended core is)
            (append_All (IsFamily (length x.probes)) (remove core.open_families place) (in_hand (set core.held worker (Some family)))
            (remove_All (IsFamily (length x.probes)) core.open_families place opened)
            (hand_All (IsFamily (length x.probes)) core.held worker (Some family) (place_All (IsFamily (length x.probes)) core.open_families place family at opened, tt) hands))))
            (λ h. omega (
              arith,
              sum_by-append h (remove core.open_families place) (in_hand (set core.held worker (Some family))),
              sum_by-append h core.open_families (in_hand core.held),
              sum_by-remove h core.open_families place family within,
              ap h same,
              hand_set h core.held worker (Some family) lt,
              ap (λ o. sum_by h (option_to_list o)) free,
              sum_by-cons h family [],
            ))
            is.balanced;
      }

  -- the family that the worker holds ends right
  ends_right : (core : CoreState) (worker : ℕ) (family : Family) (how : Ending) → held_by core worker ≡ Some family → EndsRight x t (failed_ranks core.ended) family how → IsCoreOf x t core → IsCoreOf x t (with_end core worker family how)
  ends_right core worker family how has right is =
      let opened : AllByRecursion (IsFamily (length x.probes)) core.open_families = first_All (IsFamily (length x.probes)) core.open_families (in_hand core.held) (are_waiting core is) in
      let hands : AllByRecursion (IsFamily (length x.probes)) (in_hand core.held) = second_All (IsFamily (length x.probes)) core.open_families (in_hand core.held) (are_waiting core is) in
      let one : IsFamily (length x.probes) family = held_All (IsFamily (length x.probes)) core.held worker family has hands in
      record {
        roots = is.roots;
        balanced = end_keeps x t (waiting_in core) ((core.open_families ++ given_by family how) ++ in_hand (set core.held worker None)) core.ended family how right
            (All-from_recursion (IsFamily (length x.probes)) (families_of (core.ended ++ ended_so family how ∷ []) ++ ((core.open_families ++ given_by family how) ++ in_hand (set core.held worker None)))
            (append_All (IsFamily (length x.probes)) (families_of (core.ended ++ ended_so family how ∷ [])) ((core.open_families ++ given_by family how) ++ in_hand (set core.held worker None))
            (ended_All core.ended (are_ended core is) one)
            (append_All (IsFamily (length x.probes)) (core.open_families ++ given_by family how) (in_hand (set core.held worker None))
            (append_All (IsFamily (length x.probes)) core.open_families (given_by family how) opened (given_All how one))
            (hand_All (IsFamily (length x.probes)) core.held worker None tt hands))))
            (λ h. omega (
              arith,
              sum_by-append h (core.open_families ++ given_by family how) (in_hand (set core.held worker None)),
              sum_by-append h core.open_families (given_by family how),
              sum_by-append h core.open_families (in_hand core.held),
              hand_set h core.held worker None (held_below core.held worker family has),
              ap (λ o. sum_by h (option_to_list o)) has,
              sum_by-cons h family [],
            ))
            is.balanced;
      }
    where
      ended_All : (es : List Ended) → AllByRecursion (IsFamily (length x.probes)) (families_of es) → IsFamily (length x.probes) family → AllByRecursion (IsFamily (length x.probes)) (families_of (es ++ ended_so family how ∷ []))
      ended_All [] all one = (one, tt)
      ended_All (e ∷ es) all one = (all.0, ended_All es all.1 one)

      given_All : (how' : Ending) → IsFamily (length x.probes) family → AllByRecursion (IsFamily (length x.probes)) (given_by family how')
      given_All (ending.Proved hull) one = children_are (length x.probes) family hull one
      given_All (ending.Failed rank) one = tt
      given_All (ending.Beyond best) one = tt

  its_end : (core : CoreState) (worker : ℕ) (family : Family) (how : Family → Ending) → held_by core worker ≡ Some family → EndsRight x t (failed_ranks core.ended) family (how family) → IsCoreOf x t core → IsCoreOf x t (with_its_end core worker how)
  its_end core worker family how has right is =
      subst (λ o. IsCoreOf x t (option_map_or (λ f. with_end core worker f (how f)) o core)) (sym has) (ends_right core worker family (how family) has right is)

  -- an event that is allowed keeps the balance
  pub after_keeps : (core : CoreState) (event : Event) → is_allowed x t core event ≡ true → IsCoreOf x t core → IsCoreOf x t (after x t core event)
  after_keeps core (Take worker place) allowed is =
      let first = and_parts (nat_lt worker (length core.held)) (is_none (held_by core worker) && nat_lt place (length core.open_families)) allowed in
      let second = and_parts (is_none (held_by core worker)) (nat_lt place (length core.open_families)) first.1 in
      ⊎_elim
      (λ found. subst (λ o. IsCoreOf x t (record core { open_families = remove core.open_families place; held = set core.held worker o })) (sym found.2)
      (takes core worker place found.0 (ltb-true worker (length core.held) first.0) (is_none-true (held_by core worker) second.0) found.2 found.1 found.3 is))
      (λ past. let within = ltb-true place (length core.open_families) second.1 in let far = past.0 in absurd (omega arith))
      (slice_get_cases core.open_families place).1
  after_keeps core (Proved worker) allowed is =
      let holds = held_passes (held_by core worker) (is_least_provable x) allowed in
      let there = hull_there x holds.0 holds.2 in
      its_end core worker holds.0 (λ family. ending.Proved (unwrap_or (hull_of x family) [])) holds.1 (there.1 ∙ ap (λ o. Some (unwrap_or o [])) (sym there.1)) is
  after_keeps core (Failed worker) allowed is =
      let holds = held_passes (held_by core worker) (λ family. not (is_least_provable x family)) allowed in
      its_end core worker holds.0 (λ family. ending.Failed (least_rank x t family)) holds.1 (not-true (is_least_provable x holds.0) holds.2, refl) is
  after_keeps core (Beyond worker best) allowed is =
      let holds = held_passes (held_by core worker) (λ family. has (failed_ranks core.ended) best && nat_le best (least_rank x t family)) allowed in
      let both = and_parts (has (failed_ranks core.ended) best) (nat_le best (least_rank x t holds.0)) holds.2 in
      its_end core worker holds.0 (λ family. ending.Beyond best) holds.1 (both.0, leb-true best (least_rank x t holds.0) both.1) is

  pub event_keeps : (core : CoreState) (event : Event) → IsCoreOf x t core → IsCoreOf x t (core_after x t core event)
  event_keeps core event is = by_case (is_allowed x t core event) refl
    where
      by_case : (b : Bool) → is_allowed x t core event ≡ b → IsCoreOf x t (cond b (after x t core event) core)
      by_case true allowed = after_keeps core event allowed is
      by_case false refused = is

  pub events_keep : (core : CoreState) (events : List Event) → IsCoreOf x t core → IsCoreOf x t (core_after_all x t core events)
  events_keep core [] is = is
  events_keep core (event ∷ events) is = events_keep (core_after x t core event) events (event_keeps core event is)
