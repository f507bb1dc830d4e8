-- What a seat gave, before and after it gives children.
use Rattle.std.proofs.Common.{◌≡◌, ℕ, ◌+◌, ◌≤◌, inl, inr, List, [], ◌∷◌, ◌++◌, Option, None, All, length, take, drop, sum_by, sym, refl, ap, ◌∙◌, subst, arith, length-append}
use Rattle.std.specs.Prelude.{reverse}
use Rattle.std.specs.Option.{option_to_list}
use Rattle.std.proofs.lemmas.List.{reverse-append, map-append, drop-append-le, take-append-le}
use Rattle.std.proofs.lemmas.List.Sums.{sum_by-cons, sum_by-append, sum_by_push}
use Rattle.std.proofs.lemmas.List.Elements.{All-append, All-get_or, All-push, All-tail, All-same}
use Rattle.probe_family.specs.declared.family.Family.{Family}
use Rattle.probe_family.specs.declared.ending.Ending.{Ending}
use Rattle.probe_family.specs.declared.ending.Ended.{Ended}
use Rattle.deque_reach.specs.Views.{ReachView, after_push, Refuses}
use Rattle.probe_family.specs.Often.{families_of}
use Rattle.steal_frontier.specs.Views.{SeatView, Gave, IsSound, FitsSeat, roots_of}
use Rattle.steal_frontier.specs.Gives.{Gives, Offers}
use Rattle.steal_frontier.proofs.Balanced.{weighs, gave}

sum_by-reverse : {X : Type 0} (h : X → ℕ) (xs : List X) → sum_by h (reverse xs) ≡ sum_by h xs
sum_by-reverse h [] = refl
sum_by-reverse h (x ∷ xs) = ap (sum_by h) (reverse-append (x ∷ []) xs) ∙ sum_by_push h (reverse xs) x ∙ omega (arith, sum_by-reverse h xs, sum_by-cons h x xs)

All-reverse : {X : Type 0} (P : X → Type 0) (xs : List X) → All P xs → All P (reverse xs)
All-reverse P [] all = all
All-reverse P (x ∷ xs) all = All-same P (reverse (x ∷ xs)) (reverse xs ++ x ∷ []) (reverse-append (x ∷ []) xs) (All-push P (reverse xs) x (All-reverse P xs (All-tail P x xs all)) (All-get_or P (x ∷ xs) 0 x (omega arith) all))

-- the last of the families was offered
pub offered_none : (v : ReachView) (xs ys : List Family) → xs ≡ [] → ys ≡ [] → Offers v (reverse xs) v (reverse ys)
offered_none v xs ys e f = subst (λ (p : List Family × List Family). Offers v (reverse p.0) v (reverse p.1)) (λ i. (sym e i, sym f i)) (refl, refl)

ends_with : (xs ys : List Family) (f : Family) → xs ≡ ys ++ f ∷ [] → reverse xs ≡ f ∷ reverse ys
ends_with xs ys f e = ap reverse e ∙ reverse-append ys (f ∷ [])

pub offered_pushed : (v w : ReachView) (f : Family) (xs ys : List Family) → xs ≡ ys ++ f ∷ [] → w ≡ after_push v f → Offers v (reverse xs) w (reverse ys)
offered_pushed v w f xs ys e pushed = subst (λ l. Offers v l w (reverse ys)) (sym (ends_with xs ys f e)) (inl (pushed, refl))

pub offered_back : (v w : ReachView) (f : Family) (xs ys zs : List Family) → xs ≡ ys ++ f ∷ [] → zs ≡ ys ++ f ∷ [] → Refuses v w → Offers v (reverse xs) w (reverse zs)
offered_back v w f xs ys zs e e' refused = subst (λ l. Offers v l w (reverse zs)) (sym (ends_with xs ys f e)) (inr (refused, ends_with zs ys f e'))

module _ (v w : ReachView) (others : List Family) where
  -- nothing changed in the reach but its pushes
  pub offered_same : (children : List Family) → Offers v children w others → w ≡ record v { pushed = w.pushed; refused = w.refused }
  offered_same [] o = let P : ReachView → Type 0 = λ x. x ≡ record v { pushed = x.pushed; refused = x.refused } in subst P (sym o.0) refl
  offered_same (c ∷ cs) (inl o) = let P : ReachView → Type 0 = λ x. x ≡ record v { pushed = x.pushed; refused = x.refused } in subst P (sym o.0) refl
  offered_same (c ∷ cs) (inr o) = let P : ReachView → Type 0 = λ x. x ≡ record v { pushed = x.pushed; refused = x.refused } in subst P (sym o.0.2) refl

  pub offered-length : (children : List Family) → Offers v children w others → length others ≤ length children
  offered-length [] o = omega (arith, ap length o.1)
  offered-length (c ∷ cs) (inl o) = omega (arith, ap length o.1)
  offered-length (c ∷ cs) (inr o) = omega (arith, ap length o.1)

  pub offered_all : (P : Family → Type 0) (children : List Family) → Offers v children w others → All P children → All P others
  offered_all P [] o all = All-same P others [] o.1 all
  offered_all P (c ∷ cs) (inl o) all = All-same P others cs o.1 (All-tail P c cs all)
  offered_all P (c ∷ cs) (inr o) all = All-same P others (c ∷ cs) o.1 all

  module _ (roots : ℕ) (low : roots ≤ length v.pushed) where
    pub offered_roots : (children : List Family) → Offers v children w others → take roots w.pushed ≡ take roots v.pushed
    offered_roots [] o = ap (λ (x : ReachView). take roots x.pushed) o.0
    offered_roots (c ∷ cs) (inl o) = ap (λ (x : ReachView). take roots x.pushed) o.0 ∙ take-append-le roots v.pushed (c ∷ []) low
    offered_roots (c ∷ cs) (inr o) = ap (λ (x : ReachView). take roots x.pushed) o.0.2

    pub offered_low : (children : List Family) → Offers v children w others → roots ≤ length w.pushed
    offered_low [] o = omega (arith, ap (λ (x : ReachView). length x.pushed) o.0)
    offered_low (c ∷ cs) (inl o) = omega (arith, ap (λ (x : ReachView). length x.pushed) o.0, length-append v.pushed (c ∷ []))
    offered_low (c ∷ cs) (inr o) = omega (arith, ap (λ (x : ReachView). length x.pushed) o.0.2)

    -- the children are on the deque and among the others
    pub offered-weight : (h : Family → ℕ) (children : List Family) → Offers v children w others → sum_by h (drop roots w.pushed) + sum_by h others ≡ sum_by h (drop roots v.pushed) + sum_by h children
    offered-weight h [] o = omega (arith, ap (λ (x : ReachView). sum_by h (drop roots x.pushed)) o.0, ap (sum_by h) o.1)
    offered-weight h (c ∷ cs) (inl o) =
        omega (arith, ap (λ (x : ReachView). sum_by h (drop roots x.pushed)) o.0, ap (sum_by h) (drop-append-le roots v.pushed (c ∷ []) low), sum_by_push h (drop roots v.pushed) c, ap (sum_by h) o.1, sum_by-cons h c cs)
    offered-weight h (c ∷ cs) (inr o) = omega (arith, ap (λ (x : ReachView). sum_by h (drop roots x.pushed)) o.0.2, ap (sum_by h) o.1)

module _ (old new : SeatView) (how : Ending) (children : List Family) (g : Gives old how children new) where
  abbrev record_given : Ended
  record_given = record { family = g.family; how = how }

  abbrev given_with : ReachView → SeatView
  given_with r = record old { reach = r; stack = old.stack ++ reverse g.others; held = None; ended = old.ended ++ record_given ∷ [] }

  pub gives_sound : IsSound old → FitsSeat old g.family → All (FitsSeat old) children → IsSound new
  gives_sound sound held fit =
      let pushes : ReachView = record old.reach { pushed = new.reach.pushed; refused = new.reach.refused } in
      let is : new ≡ given_with pushes = g.rest ∙ ap given_with (offered_same old.reach new.reach g.others children g.offered) in
      let others : All (FitsSeat old) g.others = offered_all old.reach new.reach g.others (FitsSeat old) children g.offered fit in
      subst IsSound (sym is) (record {
        stack = All-append (FitsSeat old) old.stack (reverse g.others) sound.stack (All-reverse (FitsSeat old) g.others others);
        held = tt;
        ended = All-same (FitsSeat old) _ (families_of old.ended ++ g.family ∷ []) (map-append (λ (e : Ended). e.family) old.ended (record_given ∷ [])) (All-push (FitsSeat old) (families_of old.ended) g.family sound.ended held);
        roots = offered_low old.reach new.reach g.others old.roots sound.roots children g.offered;
      })

  pub gives_roots : IsSound old → roots_of new ≡ roots_of old
  gives_roots sound = ap (λ (v : SeatView). take v.roots new.reach.pushed) g.rest ∙ offered_roots old.reach new.reach g.others old.roots sound.roots children g.offered

  pub gives_gave : IsSound old → (given : List Family) → Gave old given → Gave new (given ++ children)
  gives_gave sound given before =
      subst (λ (v : SeatView). Gave v (given ++ children)) (sym g.rest) (gave (given_with new.reach) (given ++ children) (λ h.
      let same = offered_same old.reach new.reach g.others children g.offered in
      omega (
        arith,
        weighs old given before h,
        sum_by-append h given children,
        ap (λ (r : ReachView). sum_by h r.popped) same,
        ap (λ (r : ReachView). sum_by (λ (fs : List Family). sum_by h fs) r.stolen) same,
        offered-weight old.reach new.reach g.others old.roots sound.roots h children g.offered,
        ap (λ (o : Option Family). sum_by h (option_to_list o)) g.held,
        sum_by-append h old.stack (reverse g.others),
        sum_by-reverse h g.others,
        ap (sum_by h) (map-append (λ (e : Ended). e.family) old.ended (record_given ∷ [])),
        sum_by_push h (families_of old.ended) g.family,
      )))
