-- What a seat keeps.
use Rattle.std.proofs.Common.{◌≡◌, ℕ, ◌<◌, List, [], ◌∷◌, ◌++◌, Option, Some, None, All, IfSome, length, get_or, set, take, sym, refl, ap, ◌∙◌, subst, arith}
use Rattle.std.specs.Prelude.{reverse}
use Rattle.std.proofs.Math.Seq.{map-set_same}
use Rattle.std.proofs.lemmas.List.{length-map, reverse-reverse}
use Rattle.std.proofs.lemmas.List.Elements.{All-get_or, All-set, All-weaker}
use Rattle.probe_family.specs.declared.family.Family.{Family}
use Rattle.probe_family.specs.declared.ending.Ending.{Ending}
use Rattle.deque_reach.specs.declared.lane.Lane.{Lane}
use Rattle.deque_reach.specs.declared.reach.Reach.{Reach}
use Rattle.deque_reach.specs.declared.deques.Deques.{Deques}
use Rattle.deque_reach.specs.Lanes.{taken_by, IsLaneTo}
use Rattle.deque_reach.specs.Reaches as Reaches
use Rattle.deque_reach.specs.Reaches.{deques_of, IsReachOf, KeepsDeques}
use Rattle.deque_reach.proofs.Drained.{map-agree}
use Rattle.deque_reach.proofs.Reached.{AllZip-length}
use Rattle.steal_frontier.specs.declared.frontier.Frontier.{Frontier}
use Rattle.steal_frontier.specs.declared.seat.Seat.{Seat}
use Rattle.steal_frontier.specs.Views.{SeatView, Gave, IsSound, FitsSeat}
use Rattle.steal_frontier.specs.Seats.{view_of, FitsFrontier, IsSeatOf, AreSeatsOf, KeepsFrontier}
use Rattle.steal_frontier.specs.Takes.{Finds, FindsNothing}
use Rattle.steal_frontier.specs.Gives.{Gives, Offers}
use Rattle.steal_frontier.proofs.Balanced.{found_sound, found_roots, nothing_found, missing_gave, missing_sound}
use Rattle.steal_frontier.proofs.Given.{gives_sound, gives_roots}
use Rattle.steal_frontier.proofs.Joined.{fits_seat}

-- the reach tells of each deque what was stolen there, and how often it was found empty
pub stolen_count : (d : Deques) (r : Reach) → IsReachOf d r → length (Reaches.view_of r).stolen ≡ length (deques_of d)
stolen_count d r is = length-map r.lanes.items taken_by ∙ sym (AllZip-length IsLaneTo (deques_of d) r.lanes.items is.lanes)

pub misses_count : (d : Deques) (r : Reach) → IsReachOf d r → length (Reaches.view_of r).misses ≡ length (deques_of d)
misses_count d r is = length-map r.lanes.items (λ (l : Lane). l.misses) ∙ sym (AllZip-length IsLaneTo (deques_of d) r.lanes.items is.lanes)

pub keeps_frontier-refl : (s : Seat) → KeepsFrontier s s
keeps_frontier-refl s = record { number = refl; frontier = λ f is. is; roots = refl }

pub keeps_frontier-trans : (a b c : Seat) → KeepsFrontier a b → KeepsFrontier b c → KeepsFrontier a c
keeps_frontier-trans a b c k l = record { number = l.number ∙ k.number; frontier = λ f is. l.frontier f (k.frontier f is); roots = l.roots ∙ k.roots }

module _ (old new : Seat) (kept : KeepsDeques old.reach new.reach) where
  -- a family was found and is held
  pub holding_keeps : (workers : ℕ) (f : Family) (mid : SeatView) → Finds workers (view_of old) f mid → view_of new ≡ record mid { held = Some f } → FitsSeat (view_of old) f → KeepsFrontier old new
  holding_keeps workers f mid found is fits = record {
    number = kept.number;
    frontier = λ fr of. record {
      reach = kept.deques fr.deques of.reach;
      sound = subst IsSound (sym is) (found_sound workers (view_of old) f mid found of.sound fits);
    };
    roots = ap (λ (v : SeatView). take v.roots v.reach.pushed) is ∙ found_roots workers (view_of old) f mid found;
  }

  pub missing_keeps : (workers : ℕ) → FindsNothing workers (view_of old) (view_of new) → KeepsFrontier old new
  missing_keeps workers none =
      let is = nothing_found workers (view_of old) (view_of new) none in record {
        number = kept.number;
        frontier = λ fr of. record {
          reach = kept.deques fr.deques of.reach;
          sound = subst IsSound (sym is) (missing_sound (view_of old) (view_of new).reach.misses of.sound);
        };
        roots = ap (λ (v : SeatView). take v.roots v.reach.pushed) is;
      }

  pub nothing_gave : (workers : ℕ) → FindsNothing workers (view_of old) (view_of new) → (given : List Family) → Gave (view_of old) given → Gave (view_of new) given
  nothing_gave workers none given before =
      subst (λ (v : SeatView). Gave v given) (sym (nothing_found workers (view_of old) (view_of new) none)) (missing_gave (view_of old) (view_of new).reach.misses given before)

  -- children were given
  pub giving_keeps : (f : Frontier) (how : Ending) (children : List Family) → IsSeatOf f old → All (FitsFrontier f) children → Gives (view_of old) how children (view_of new) → KeepsFrontier old new
  giving_keeps f how children at fit g = record {
    number = kept.number;
    frontier = λ fr of. record {
      reach = kept.deques fr.deques of.reach;
      sound = gives_sound (view_of old) (view_of new) how children g of.sound
          (subst (λ (o : Option Family). IfSome o (FitsSeat (view_of old))) g.held of.sound.held)
          (All-weaker (FitsFrontier f) (FitsSeat (view_of old)) (λ c fits. fits_seat f old c at.reach fits) children fit);
    };
    roots = gives_roots (view_of old) (view_of new) how children g at.sound;
  }

-- what `give` does, step by step
pub gives_of : (old new : Seat) (how : Ending) (children : List Family) (family : Family) (turned left : List Family)
    → old.held ≡ Some family → turned ≡ reverse children → Offers (view_of old).reach (reverse turned) (view_of new).reach (reverse left) → new.stack.items ≡ old.stack.items ++ left
    → new.ended.items ≡ old.ended.items ++ record { family = family; how = how } ∷ [] → new.held ≡ None → new.roots ≡ old.roots → Gives (view_of old) how children (view_of new)
gives_of old new how children family turned left held is offered stack ended free roots = record {
  family = family;
  held = held;
  others = reverse left;
  offered = subst (λ l. Offers (view_of old).reach l (view_of new).reach (reverse left)) (ap reverse is ∙ reverse-reverse children) offered;
  rest =
      let whole : new.stack.items ≡ old.stack.items ++ reverse (reverse left) = stack ∙ ap (λ l. old.stack.items ++ l) (sym (reverse-reverse left)) in
      λ t. record { reach = (view_of new).reach; stack = whole t; held = free t; ended = ended t; roots = roots t };
}

-- one of all seats was used
pub seats_changed : (f : Frontier) (seats : List Seat) (i : ℕ) (old new : Seat) → i < length seats → old ≡ get_or seats i old → KeepsFrontier old new → AreSeatsOf f seats → AreSeatsOf f (set seats i new)
seats_changed f seats i old new low is keeps are = record {
  each = All-set (IsSeatOf f) seats i new (keeps.frontier f (subst (IsSeatOf f) (sym is) (All-get_or (IsSeatOf f) seats i old low are.each))) are.each;
  all = map-set_same (λ (s : Seat). (view_of s).reach.number) seats i new old (keeps.number ∙ ap (λ (s : Seat). (view_of s).reach.number) is) ∙ are.all;
}

-- all seats were used
pub seats_used : (f : Frontier) (before after : List Seat) → length after ≡ length before → ((k : ℕ) (d : Seat) → k < length before → KeepsFrontier (get_or before k d) (get_or after k d)) → AreSeatsOf f before → AreSeatsOf f after
seats_used f before after count keeps are = record {
  each = λ k d low. (let within : k < length before = omega arith in (keeps k d within).frontier f (All-get_or (IsSeatOf f) before k d within are.each));
  all = map-agree (λ (s : Seat). (view_of s).reach.number) (λ (s : Seat). (view_of s).reach.number) before after count (λ k d low. (keeps k d low).number) ∙ are.all;
}
