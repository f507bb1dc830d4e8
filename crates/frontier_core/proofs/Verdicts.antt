-- The verdict of an idle core.
use Rattle.std.proofs.Common.{◌≡◌, ℕ, zero, suc, ◌+◌, ◌<◌, ◌≤◌, Bool, true, false, ◌||◌, eqb, min, List, [], ◌∷◌, ◌++◌, length, take, get_or, refl, sym, ap, ◌∙◌, subst, arith, None, Some, All, ⊎_elim}
use Rattle.std.proofs.lemmas.Bool.{cases_lt, eq-eqb, eqb-true, or_cases, true≢false}
use Rattle.std.proofs.lemmas.List.{append-nil, get_or_default, take_more}
use Rattle.std.proofs.lemmas.List.Concat.{flat_map-append}
use Rattle.std.proofs.lemmas.List.Elements.{All-from_recursion, recursion_from_All}
use Rattle.std.proofs.lemmas.Option.{same_Some}
use Rattle.expr_table.specs.declared.instance.Instance.{Instance}
use Rattle.expr_table.specs.Instance.{IsFitting}
use Rattle.expr_table.specs.Table.{IsTable, has}
use Rattle.once_random.proofs.Facts.{has-++}
use Rattle.probe_family.specs.declared.ending.Ended.{Ended}
use Rattle.probe_family.specs.declared.ending.Ending.{Ending}
use Rattle.probe_family.specs.declared.ending.Ending.TheVariants.{Proved, Failed, Beyond}
use Rattle.probe_family.specs.Families.{total_take}
use Rattle.probe_family.specs.Roots.{roots_of}
use Rattle.probe_family.proofs.Ranges.{weaken_All}
use Rattle.frontier_core.specs.declared.event.Event.{Event}
use Rattle.frontier_core.specs.declared.verdict.Verdict.{Verdict}
use Rattle.frontier_core.specs.declared.verdict.Verdict.TheVariants.{Secure, Unproved}
use Rattle.frontier_core.specs.Answer.{IsFailedTuple, IsLeast, IsSameVerdict, IsSearchOf}
use Rattle.probe_family.specs.Often.{AsOften}
use Rattle.frontier_core.specs.Balance.{Balanced, EndsRight, failed_rank, failed_ranks}
use Rattle.frontier_core.specs.Closings.{closings_of}
use Rattle.frontier_core.specs.Core.{CoreState, IsIdle, core_after_all, first_core}
use Rattle.frontier_core.specs.Preorder.{IsWhole}
use Rattle.frontier_core.specs.Search.{IsSearched}
use Rattle.frontier_core.specs.Tree.{first_of, tree_of}
use Rattle.frontier_core.specs.Verdict.{IsVerdict}
use Rattle.frontier_core.proofs.Cores.{core_begins, events_keep, idle_waits, roots_balance}
use Rattle.frontier_core.proofs.Idle.{ended_are_searched, least_failed, none_failed}
use Rattle.frontier_core.proofs.Places.{at_All, place_from_get_or}
use Rattle.frontier_core.proofs.Whole.{closes_tree}

has_at : (xs : List ℕ) (i k : ℕ) → k < length xs → get_or xs k i ≡ i → has xs i ≡ true
has_at [] i k lt e = absurd (omega arith)
has_at (x ∷ xs) i zero lt e = ap (λ b. b || has xs i) (eq-eqb x i e)
has_at (x ∷ xs) i (suc k) lt e = or_right (eqb x i) (has xs i) (has_at xs i k (omega arith) e)
  where
    or_right : (a b : Bool) → b ≡ true → (a || b) ≡ true
    or_right true b is = refl
    or_right false b is = is

-- one more rank is looked at
pub least_more : (ranks : List ℕ) (i least : ℕ) → i < length ranks → has ranks least ≡ true → ((other : ℕ) → has (take i ranks) other ≡ true → least ≤ other)
    → (has ranks (min least (get_or ranks i 0)) ≡ true) × ((other : ℕ) → has (take (i + 1) ranks) other ≡ true → min least (get_or ranks i 0) ≤ other)
least_more ranks i least lt among first = (
  ⊎_elim
      (λ less. let e : min least (get_or ranks i 0) ≡ least = omega arith in ap (has ranks) e ∙ among)
      (λ more. let e : min least (get_or ranks i 0) ≡ get_or ranks i 0 = omega arith in ap (has ranks) e ∙ has_at ranks (get_or ranks i 0) i lt (get_or_default ranks i (get_or ranks i 0) 0 lt))
      (cases_lt least (get_or ranks i 0)),
  λ other h. ⊎_elim
      (λ before. let le = first other before in omega arith)
      (λ here. ⊎_elim (λ same. let e = eqb-true (get_or ranks i 0) other same in omega arith) (λ none. absurd (true≢false (sym none))) (or_cases _ false here))
      (or_cases (has (take i ranks) other) (has (get_or ranks i 0 ∷ []) other) (sym (ap (λ l. has l other) (take_more ranks i 0 lt) ∙ has-++ (take i ranks) (get_or ranks i 0 ∷ []) other) ∙ h)),
)

-- one more family is looked at
pub failed_more : (ended : List Ended) (i : ℕ) (e : Ended) (rank : ℕ) → i < length ended → e ≡ get_or ended i e → has (failed_ranks (take i ended)) rank ≡ false → has (failed_rank e.how) rank ≡ false → has (failed_ranks (take (i + 1) ended)) rank ≡ false
failed_more ended i e rank lt read before here =
    ap (λ l. has (failed_ranks l) rank) (take_more ended i e lt)
    ∙ (ap (λ l. has l rank) (flat_map-append (λ (d : Ended). failed_rank d.how) (take i ended) (get_or ended i e ∷ []))
    ∙ (has-++ (failed_ranks (take i ended)) (failed_rank (get_or ended i e).how ++ []) rank
    ∙ (ap (λ b. b || has (failed_rank (get_or ended i e).how ++ []) rank) before
    ∙ (ap (λ l. has l rank) (append-nil (failed_rank (get_or ended i e).how))
    ∙ (ap (λ (d : Ended). has (failed_rank d.how) rank) (sym read) ∙ here)))))

-- a family that failed with the rank
pub failed_with : (how : Ending) (rank : ℕ) → has (failed_rank how) rank ≡ true → how ≡ Failed rank
failed_with (Proved hull) rank h = absurd (true≢false (sym h))
failed_with (Failed other) rank h = ⊎_elim (λ same. ap Failed (eqb-true other rank same)) (λ none. absurd (true≢false (sym none))) (or_cases _ false h)
failed_with (Beyond best) rank h = absurd (true≢false (sym h))

module _ (x : Instance) (t : ℕ) (core : CoreState) (search : IsSearchOf x t core) (idle : IsIdle core) where
  ends_balanced : Balanced x t [] core.ended
  ends_balanced = subst (λ l. Balanced x t l core.ended) (idle_waits x t core idle) search.core_is.balanced

  -- where none failed
  pub is_whole : failed_ranks core.ended ≡ [] → IsWhole x t core.roots core.ended
  is_whole none = record { few = search.few; roots_are = search.core_is.roots; balanced = ends_balanced; none_failed = none }

  pub none_first : failed_ranks core.ended ≡ [] → first_of x t ≡ None
  none_first none = none_failed x t search.table search.fitting core.ended ends_balanced none

  -- where some failed
  pub failed_first : (rank : ℕ) (tuple : List ℕ) → IsLeast (failed_ranks core.ended) rank → IsFailedTuple core.ended rank tuple → first_of x t ≡ Some tuple
  failed_first rank tuple least found =
      let at = place_from_get_or core.ended found.0 found.1 found.2 found.3 in
      let searched : IsSearched x t found.1.family = at_All (λ (e : Ended). IsSearched x t e.family) core.ended found.0 found.1 (ended_are_searched x t search.table search.fitting core.ended ends_balanced) at in
      let right : EndsRight x t (failed_ranks core.ended) found.1.family found.1.how = at_All (λ (e : Ended). EndsRight x t (failed_ranks core.ended) e.family e.how) core.ended found.0 found.1 (recursion_from_All (λ (e : Ended). EndsRight x t (failed_ranks core.ended) e.family e.how) core.ended ends_balanced.right) at in
      least_failed x t search.table search.fitting core.ended ends_balanced found.1.family rank searched (subst (EndsRight x t (failed_ranks core.ended) found.1.family) found.4.0 right) least.first
      ∙ ap (λ s. Some s) found.4.1

  pub ended_small : All (λ (e : Ended). total_take e.family.parts ≤ 8) core.ended
  ended_small =
      All-from_recursion (λ (e : Ended). total_take e.family.parts ≤ 8) core.ended
      (weaken_All (λ (e : Ended). IsSearched x t e.family) (λ (e : Ended). total_take e.family.parts ≤ 8) (λ e is. let size = is.rules.size in let small = is.rules.small in omega arith) core.ended
      (ended_are_searched x t search.table search.fitting core.ended ends_balanced))

  pub tree_closed : failed_ranks core.ended ≡ [] → AsOften (closings_of core.ended) (tree_of x t)
  tree_closed none = closes_tree x t core.ended ends_balanced none

-- whatever happens to the core of a search, it stays that
pub search_begins : (x : Instance) (t workers : ℕ) → IsTable x.table → IsFitting x → t ≤ 8 → IsSearchOf x t (first_core x t workers)
search_begins x t workers table fitting few = record { table = table; fitting = fitting; few = few; core_is = core_begins x t workers (roots_of x t) [] (roots_balance x t few) }

pub search_stays : (x : Instance) (t : ℕ) (core : CoreState) (events : List Event) → IsSearchOf x t core → IsSearchOf x t (core_after_all x t core events)
search_stays x t core events search = record { table = search.table; fitting = search.fitting; few = search.few; core_is = events_keep x t core events search.core_is }

-- there is one verdict
pub one_verdict : (x : Instance) (t : ℕ) (a b : Verdict) → IsVerdict x t a → IsVerdict x t b → IsSameVerdict a b
one_verdict x t (Secure closed) (Secure other) is is' = is.1 ∙ sym is'.1
one_verdict x t (Secure closed) (Unproved tuple) is is' = absurd (cc (sym is.0 ∙ is'))
one_verdict x t (Unproved tuple) (Secure closed) is is' = absurd (cc (sym is'.0 ∙ is))
one_verdict x t (Unproved tuple) (Unproved other) is is' = same_Some tuple.items other.items (sym is ∙ is')
