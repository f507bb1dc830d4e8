-- Each event that is allowed leaves less to do.
use Rattle.std.proofs.Common.{◌≡◌, ℕ, ◌+◌, ◌-◌, ◌<◌, ◌≤◌, Bool, true, not, ◌&&◌, List, [], ◌∷◌, length, set, refl, sym, ap, ◌∙◌, subst, arith, sum_by, Option, None, Some, ⊎_elim, is_none, unwrap_or, nat_le, nat_lt, length-append}
use Rattle.std.proofs.lemmas.Bool.{and_parts, ltb-true}
use Rattle.std.proofs.lemmas.List.{length-set}
use Rattle.std.proofs.lemmas.List.Sums.{sum_by-append, sum_by-cons, sum_by-remove, sum_by-set}
use Rattle.std.proofs.lemmas.Option.{slice_get_cases}
use Rattle.std.specs.List.{flat_map, remove, slice_get}
use Rattle.std.specs.Option.{option_map_or}
use Rattle.expr_table.specs.declared.instance.Instance.{Instance}
use Rattle.expr_table.specs.Table.{has}
use Rattle.probe_family.specs.declared.ending.Ending.{Ending}
use Rattle.probe_family.specs.declared.ending.Ending.TheVariants as ending
use Rattle.probe_family.specs.declared.family.Family.{Family}
use Rattle.probe_family.specs.Families.{IsFamily}
use Rattle.family_split.specs.Children.{children_of}
use Rattle.extend_set.specs.Hull.{hull_of}
use Rattle.frontier_core.specs.declared.event.Event.{Event}
use Rattle.frontier_core.specs.declared.event.Event.TheVariants.{Take, Proved, Failed, Beyond}
use Rattle.frontier_core.specs.Balance.{failed_ranks, given_by}
use Rattle.frontier_core.specs.Core.{CoreState, IsCoreOf, after, held_by, is_allowed, is_least_provable, with_end, with_its_end}
use Rattle.frontier_core.specs.Search.{least_rank}
use Rattle.frontier_core.proofs.Cores.{held_below, held_is_family, held_passes, is_none-true, open_is_family}
use Rattle.frontier_core.proofs.Hulls.{hull_there}
use Rattle.frontier_core.proofs.Trees.{next_of, visits, visits_on}

module _ (x : Instance) where
  -- twice the families that a family leads to
  abbrev visit_twice : Family → ℕ
  visit_twice f = length (visits x f) + length (visits x f)

  -- one less where it is held already
  abbrev in_hand : Option Family → ℕ
  in_hand o = option_map_or (λ f. visit_twice f - 1) o 0

  -- how much there is to do
  abbrev pub to_do : CoreState → ℕ
  to_do core = sum_by visit_twice core.open_families + sum_by in_hand core.held

  some_visits : (f : Family) → IsFamily (length x.probes) f → 1 ≤ length (visits x f)
  some_visits f is = omega (arith, ap length (visits_on x f is))

  twice_sum : (fs : List Family) → sum_by visit_twice fs ≡ length (flat_map (visits x) fs) + length (flat_map (visits x) fs)
  twice_sum [] = refl
  twice_sum (f ∷ fs) = omega (arith, sum_by-cons visit_twice f fs, length-append (visits x f) (flat_map (visits x) fs), twice_sum fs)

  -- what a family gives is less to do than the family
  gives_less : (f : Family) (how : Ending) → IsFamily (length x.probes) f → ((hull : List Bool) → how ≡ ending.Proved hull → hull_of x f ≡ Some hull) → sum_by visit_twice (given_by f how) < visit_twice f - 1
  gives_less f (ending.Proved hull) is right =
      let next : next_of x f ≡ children_of f hull = ap (λ o. option_map_or (children_of f) o []) (right hull refl) in
      omega (arith, twice_sum (children_of f hull), ap length (visits_on x f is), ap (λ l. length (flat_map (visits x) l)) next)
  gives_less f (ending.Failed rank) is right = omega (arith, some_visits f is)
  gives_less f (ending.Beyond best) is right = omega (arith, some_visits f is)

  module _ (t : ℕ) where
    ends_less : (core : CoreState) (worker : ℕ) (f : Family) (how : Family → Ending) → held_by core worker ≡ Some f → IsCoreOf x t core → ((hull : List Bool) → how f ≡ ending.Proved hull → hull_of x f ≡ Some hull) → to_do (with_its_end core worker how) < to_do core
    ends_less core worker f how has is right =
        subst (λ o. to_do (option_map_or (λ g. with_end core worker g (how g)) o core) < to_do core) (sym has)
        (omega (
          arith,
          sum_by-append visit_twice core.open_families (given_by f (how f)),
          sum_by-set in_hand core.held worker None None (held_below core.held worker f has),
          ap in_hand has,
          gives_less f (how f) (held_is_family x t core worker f is has) right,
        ))

    -- an event that is allowed leaves less to do
    pub leaves_less : (core : CoreState) (event : Event) → is_allowed x t core event ≡ true → IsCoreOf x t core → to_do (after x t core event) < to_do core
    leaves_less core (Take worker place) allowed is =
        let first = and_parts (nat_lt worker (length core.held)) (is_none (held_by core worker) && nat_lt place (length core.open_families)) allowed in
        let second = and_parts (is_none (held_by core worker)) (nat_lt place (length core.open_families)) first.1 in
        ⊎_elim
        (λ found.
        subst (λ o. sum_by visit_twice (remove core.open_families place) + sum_by in_hand (set core.held worker o) < to_do core) (sym found.2)
        (omega (
          arith,
          sum_by-remove visit_twice core.open_families place found.0 found.1,
          ap visit_twice found.3,
          sum_by-set in_hand core.held worker (Some found.0) None (ltb-true worker (length core.held) first.0),
          ap in_hand (is_none-true (held_by core worker) second.0),
          some_visits found.0 (open_is_family x t core place found.0 is found.2),
        )))
        (λ past. let within = ltb-true place (length core.open_families) second.1 in let far = past.0 in absurd (omega arith))
        (slice_get_cases core.open_families place).1
    leaves_less core (Proved worker) allowed is =
        let holds = held_passes (held_by core worker) (is_least_provable x) allowed in
        let there = hull_there x holds.0 holds.2 in
        ends_less core worker holds.0 (λ family. ending.Proved (unwrap_or (hull_of x family) [])) holds.1 is
        (λ hull e. there.1 ∙ ap (λ h. Some h) (sym (ap (λ o. unwrap_or o []) there.1) ∙ hull_same e))
      where
        hull_same : {a b : List Bool} → ending.Proved a ≡ ending.Proved b → a ≡ b
        hull_same e = cc e
    leaves_less core (Failed worker) allowed is =
        let holds = held_passes (held_by core worker) (λ family. not (is_least_provable x family)) allowed in
        ends_less core worker holds.0 (λ family. ending.Failed (least_rank x t family)) holds.1 is (λ hull e. absurd (cc e))
    leaves_less core (Beyond worker best) allowed is =
        let holds = held_passes (held_by core worker) (λ family. has (failed_ranks core.ended) best && nat_le best (least_rank x t family)) allowed in
        ends_less core worker holds.0 (λ family. ending.Beyond best) holds.1 is (λ hull e. absurd (cc e))

    -- the number of workers stays
    its_crew : (core : CoreState) (worker : ℕ) (o : Option Family) (how : Family → Ending) → length (option_map_or (λ f. with_end core worker f (how f)) o core).held ≡ length core.held
    its_crew core worker None how = refl
    its_crew core worker (Some f) how = length-set core.held worker None

    pub same_crew : (core : CoreState) (event : Event) → length (after x t core event).held ≡ length core.held
    same_crew core (Take worker place) = length-set core.held worker (slice_get core.open_families place)
    same_crew core (Proved worker) = its_crew core worker (held_by core worker) (λ family. ending.Proved (unwrap_or (hull_of x family) []))
    same_crew core (Failed worker) = its_crew core worker (held_by core worker) (λ family. ending.Failed (least_rank x t family))
    same_crew core (Beyond worker best) = its_crew core worker (held_by core worker) (λ family. ending.Beyond best)
