-- What the turns of a schedule cite: which events are allowed, and that a core moves on.
use Rattle.std.proofs.Common.{◌≡◌, ◌↔◌, ℕ, ◌<◌, ◌≤◌, ◌/◌, ◌%◌, Bool, true, false, ◌&&◌, List, [], ◌∷◌, length, refl, sym, ap, ◌∙◌, subst, arith, Option, None, Some, Result, Ok, Err, ⊎_elim, is_none, is_some, nat_lt, Bor}
use Rattle.std.proofs.lemmas.Bool.{and_from, cond-true, lt-ltb, true≢false}
use Rattle.std.proofs.lemmas.List.{get_or_default}
use Rattle.std.specs.Option.{IfSome, option_copied}
use Rattle.std.specs.Result.{OnOk}
use Rattle.expr_table.specs.declared.instance.Instance.{Instance}
use Rattle.probe_family.specs.declared.family.Family.{Family}
use Rattle.frontier_core.specs.declared.event.Event.{Event}
use Rattle.frontier_core.specs.declared.event.Event.TheVariants.{Take, Beyond}
use Rattle.frontier_core.specs.Core.{CoreState, IsIdle, after, core_after, held_by, is_allowed}
use Rattle.frontier_core.specs.Schedule.{HasTurn, HoldNone, IsFirstHolder, IsKnown, IsTurnOf, Moves, TakesTurn}
use Rattle.frontier_core.specs.Search.{least_rank}
use Rattle.frontier_core.proofs.Allowed.{may_pass}

-- a core of which nothing is open or held
pub idle_from : (core : CoreState) (workers : ℕ) → length core.held ≡ workers → core.open_families ≡ [] → HoldNone core 0 workers → IsIdle core
idle_from core workers crew none free = (none, λ k d lt. get_or_default core.held k d None lt ∙ free k (omega arith) (omega arith))

-- where the answer is no, the core is not idle
pub still_busy : (answer : Bool) (core : CoreState) → (answer ≡ true) ↔ IsIdle core → answer ≡ false → IsIdle core → ⊥
still_busy answer core says working idle = true≢false (sym (says.1 idle) ∙ working)

-- no family is lent where none is held
pub none_lent : {X : Type 0} (o : Option (Bor X)) (h : Option X) → option_copied o ≡ h → is_some o ≡ false → h ≡ None
none_lent None h same is = sym same
none_lent (Some v) h same is = absurd (true≢false is)

-- a worker that has the turn and holds no family finds one open
pub turn_finds : (core : CoreState) (drawn worker : ℕ) → HasTurn core drawn worker → held_by core worker ≡ None → 0 < length core.open_families
turn_finds core drawn worker turn free = by_case core.open_families refl
  where
    holder : {low : ℕ} → IsFirstHolder core low worker → ⊥
    holder first = true≢false (sym first.holds ∙ ap is_some free)

    by_case : (families : List Family) → core.open_families ≡ families → 0 < length families
    by_case [] none = absurd (⊎_elim (λ first. holder first) (λ round. holder round.1) (turn.where_none none))
    by_case (family ∷ families) some = omega arith

-- what follows from what holds of a result that is not an error
pub on_ok : {A E P Q : Type 0} (result : Result A E) → (P → Q) → OnOk result P → OnOk result Q
on_ok (Ok value) then holds = then holds
on_ok (Err error) then holds = tt

module _ (x : Instance) (t : ℕ) (core : CoreState) where
  module _ (worker number : ℕ) where
    pub it_moves : (event : Event) (new : CoreState) → IsTurnOf x t core worker number event → is_allowed x t core event ≡ true → new ≡ core_after x t core event → Moves x t worker number core new
    it_moves event new turn allowed is = record { event = event; turn = turn; allowed = allowed; is = is ∙ cond-true (is_allowed x t core event) (after x t core event) core allowed }

    -- a family beyond a rank that is known
    pub moves_beyond : (best : ℕ) (new : CoreState) → is_some (held_by core worker) ≡ true → IsKnown x t core worker best → new ≡ core_after x t core (Beyond worker best) → Moves x t worker number core new
    moves_beyond best new some known is = by_case (held_by core worker) refl
      where
        by_case : (o : Option Family) → held_by core worker ≡ o → Moves x t worker number core new
        by_case None none = absurd (true≢false (sym some ∙ ap is_some none))
        by_case (Some family) holds =
            it_moves (Beyond worker best) new (refl, known.least)
            (may_pass x t core worker best family (sym holds) known.least.among (subst (λ o. IfSome o (λ f. best ≤ least_rank x t f)) holds known.below)) is

  pub may_take : (worker place : ℕ) → worker < length core.held → held_by core worker ≡ None → place < length core.open_families → is_allowed x t core (Take worker place) ≡ true
  may_take worker place within free there =
      and_from (nat_lt worker (length core.held)) (is_none (held_by core worker) && nat_lt place (length core.open_families)) (lt-ltb worker (length core.held) within)
      (and_from (is_none (held_by core worker)) (nat_lt place (length core.open_families)) (ap is_none free) (lt-ltb place (length core.open_families) there))

  -- the worker whose turn it is moves the core on
  pub takes_turn : (workers drawn worker : ℕ) (new : CoreState) → length core.held ≡ workers → HasTurn core (drawn % workers) worker → Moves x t worker (drawn / workers) core new → TakesTurn x t drawn core new
  takes_turn workers drawn worker new crew turn moves = record {
    worker = worker;
    has_turn = subst (λ n. HasTurn core (drawn % n) worker) (sym crew) turn;
    moves = subst (λ n. Moves x t worker (drawn / n) core new) (sym crew) moves;
  }
