-- What a seat gave, before and after it takes a family.
use Rattle.std.proofs.Common.{◌≡◌, ℕ, ◌+◌, ◌<◌, List, [], ◌∷◌, ◌++◌, Option, Some, None, All, length, get_or, set, sum_by, sym, ap, ◌∙◌, subst, arith}
use Rattle.std.specs.List.{flat_map}
use Rattle.std.specs.Option.{option_to_list}
use Rattle.std.proofs.lemmas.List.Sums.{sum_by-append, sum_by-set, sum_by_push}
use Rattle.probe_family.specs.declared.family.Family.{Family}
use Rattle.deque_reach.specs.Views.{ReachView, after_steal, after_pop}
use Rattle.deque_reach.proofs.Weights.{sum_by-flat_map, All_parts}
use Rattle.probe_family.specs.Often.{families_of}
use Rattle.steal_frontier.specs.Views.{SeatView, Gave, IsSound, FitsSeat, roots_of, pushed_later, taken_of, waiting_of}
use Rattle.steal_frontier.specs.Tries.{others_of}
use Rattle.steal_frontier.specs.Takes.{FromOther, Finds, FindsNothing}
use Rattle.steal_frontier.specs.Takes.Finds.{on_stack, on_own_deque, on_another}
use Rattle.steal_frontier.proofs.Tried.{missed_rest}

-- what the families weigh that a seat took
abbrev pub taken_weight : (Family → ℕ) → SeatView → ℕ
taken_weight h v = sum_by h v.reach.popped + sum_by (λ fs. sum_by h fs) v.reach.stolen

-- what the families weigh that a seat pushed later or has
abbrev pub kept_weight : (Family → ℕ) → SeatView → ℕ
kept_weight h v = sum_by h (pushed_later v) + sum_by h (option_to_list v.held) + sum_by h v.stack + sum_by h (families_of v.ended)

abbrev pub Weighs : SeatView → List Family → Type 0
Weighs v given = (h : Family → ℕ) → sum_by h given + taken_weight h v ≡ kept_weight h v

taken-weight : (h : Family → ℕ) (v : SeatView) (given : List Family) → sum_by h (given ++ taken_of v) ≡ sum_by h given + taken_weight h v
taken-weight h v given = omega (arith, sum_by-append h given (taken_of v), sum_by-append h v.reach.popped (flat_map (λ fs. fs) v.reach.stolen), sum_by-flat_map h (λ (fs : List Family). fs) v.reach.stolen)

kept-weight : (h : Family → ℕ) (v : SeatView) → sum_by h (pushed_later v ++ waiting_of v ++ families_of v.ended) ≡ kept_weight h v
kept-weight h v = omega (arith, sum_by-append h (pushed_later v ++ waiting_of v) (families_of v.ended), sum_by-append h (pushed_later v) (waiting_of v), sum_by-append h (option_to_list v.held) v.stack)

pub weighs : (v : SeatView) (given : List Family) → Gave v given → Weighs v given
weighs v given gave h = omega (arith, gave h, taken-weight h v given, kept-weight h v)

pub gave : (v : SeatView) (given : List Family) → Weighs v given → Gave v given
gave v given w h = omega (arith, w h, taken-weight h v given, kept-weight h v)

-- a family that was stolen
stolen-weight : (h : Family → ℕ) (stolen : List (List Family)) (d : ℕ) (f : Family) → d < length stolen
    → sum_by (λ fs. sum_by h fs) (set stolen d (get_or stolen d [] ++ f ∷ [])) ≡ sum_by (λ fs. sum_by h fs) stolen + h f
stolen-weight h stolen d f low =
    omega (arith, sum_by-set (λ (fs : List Family). sum_by h fs) stolen d (get_or stolen d [] ++ f ∷ []) [] low, sum_by_push h (get_or stolen d []) f)

-- the reach after a steal, by the one before
pub stolen_reach : (workers : ℕ) (old : SeatView) (f : Family) (new : SeatView) (s : FromOther workers old f new) → new.reach ≡ after_steal (record old.reach { misses = s.stolen.reach.misses }) s.stolen.deque f
stolen_reach workers old f new s =
    let own = s.missed.2 in
    let others = missed_rest s.reach s.stolen.reach s.stolen.before s.stolen.missed in
    s.stolen.stolen ∙ ap (λ (r : ReachView). after_steal r s.stolen.deque f) (others ∙ ap (λ (r : ReachView). record r { misses = s.stolen.reach.misses }) own)

module _ (workers : ℕ) (old : SeatView) (f : Family) where
  -- the family that was found is held
  abbrev pub holding : SeatView → SeatView
  holding v = record v { held = Some f }

  module _ (given : List Family) (free : old.held ≡ None) (before : Gave old given) where
    stack_gave : (stack : List Family) → old.stack ≡ stack ++ f ∷ [] → Gave (holding (record old { stack = stack })) given
    stack_gave stack is = gave (holding (record old { stack = stack })) given (λ h.
        omega (arith, weighs old given before h, ap (sum_by h) is, sum_by_push h stack f, ap (λ (o : Option Family). sum_by h (option_to_list o)) free))

    own_gave : Gave (holding (record old { reach = after_pop old.reach f })) given
    own_gave = gave (holding (record old { reach = after_pop old.reach f })) given (λ h.
        omega (arith, weighs old given before h, sum_by_push h old.reach.popped f, ap (λ (o : Option Family). sum_by h (option_to_list o)) free))

    other_gave : (misses : List ℕ) (d : ℕ) → d < length old.reach.stolen → Gave (holding (record old { reach = after_steal (record old.reach { misses = misses }) d f })) given
    other_gave misses d low = gave (holding (record old { reach = after_steal (record old.reach { misses = misses }) d f })) given (λ h.
        omega (arith, weighs old given before h, stolen-weight h old.reach.stolen d f low, ap (λ (o : Option Family). sum_by h (option_to_list o)) free))

    pub found_gave : (new : SeatView) → length old.reach.stolen ≡ workers → Finds workers old f new → Gave (holding new) given
    found_gave new count (on_stack s) = subst (λ (v : SeatView). Gave (holding v) given) (sym s.rest) (stack_gave new.stack s.stack)
    found_gave new count (on_own_deque s) = subst (λ (v : SeatView). Gave (holding v) given) (sym s.rest) own_gave
    found_gave new count (on_another s) =
        let among = s.stolen.among in
        subst (λ (v : SeatView). Gave (holding v) given) (sym (s.rest ∙ ap (λ (r : ReachView). record old { reach = r }) (stolen_reach workers old f new s)))
        (other_gave s.stolen.reach.misses s.stolen.deque (omega arith))

  -- its families fit still
  pub found_sound : (new : SeatView) → Finds workers old f new → IsSound old → FitsSeat old f → IsSound (holding new)
  found_sound new (on_stack s) sound fits =
      subst (λ (v : SeatView). IsSound (holding v)) (sym s.rest) (record {
        stack = (All_parts (FitsSeat old) new.stack (f ∷ []) (subst (All (FitsSeat old)) s.stack sound.stack)).0;
        held = fits;
        ended = sound.ended;
        roots = sound.roots;
      })
  found_sound new (on_own_deque s) sound fits =
      subst (λ (v : SeatView). IsSound (holding v)) (sym s.rest) (record { stack = sound.stack; held = fits; ended = sound.ended; roots = sound.roots })
  found_sound new (on_another s) sound fits =
      subst (λ (v : SeatView). IsSound (holding v)) (sym (s.rest ∙ ap (λ (r : ReachView). record old { reach = r }) (stolen_reach workers old f new s)))
      (record { stack = sound.stack; held = fits; ended = sound.ended; roots = sound.roots })

  pub found_roots : (new : SeatView) → Finds workers old f new → roots_of (holding new) ≡ roots_of old
  found_roots new (on_stack s) = ap roots_of s.rest
  found_roots new (on_own_deque s) = ap roots_of s.rest
  found_roots new (on_another s) = ap roots_of (s.rest ∙ ap (λ (r : ReachView). record old { reach = r }) (stolen_reach workers old f new s))

-- a seat that found nothing
pub nothing_found : (workers : ℕ) (old new : SeatView) → FindsNothing workers old new → new ≡ record old { reach = record old.reach { misses = new.reach.misses } }
nothing_found workers old new s = s.rest ∙ ap (λ (r : ReachView). record old { reach = r }) (missed_rest old.reach new.reach (old.reach.number ∷ others_of workers old.reach.number) s.missed)

module _ (old : SeatView) (misses : List ℕ) where
  abbrev pub missing : SeatView
  missing = record old { reach = record old.reach { misses = misses } }

  pub missing_gave : (given : List Family) → Gave old given → Gave missing given
  missing_gave given g h = g h

  pub missing_sound : IsSound old → IsSound missing
  missing_sound s = record { stack = s.stack; held = s.held; ended = s.ended; roots = s.roots }
