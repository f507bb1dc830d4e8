-- The lanes of a reach of which one changed.
use Rattle.std.proofs.Common.{◌≡◌, ℕ, zero, suc, ◌<◌, List, [], ◌∷◌, ◌++◌, Option, Some, None, map, length, get_or, set, sym, refl, ap, ◌∙◌, subst, arith, IfNone, ◌⊎◌, ⊎_elim}
use Rattle.std.specs.List.{AllZip}
use Rattle.std.proofs.lemmas.List.{map-set, get_or-map}
use Rattle.std.proofs.Math.Seq.{map-set_same}
use Rattle.std.specs.Global.{Global}
use Rattle.atomic_blocks.specs.Lent.{RowsId}
use Rattle.crossbeam_deque.specs.Steals.{MatchSteal}
use Rattle.crossbeam_deque.specs.declared.steal.Steal.{Steal}
use Rattle.crossbeam_deque.specs.declared.steal.Steal.TheVariants.{Empty, Success, Retry}
use Rattle.crossbeam_deque.specs.Handles.{Pass, view, IsPassOf, SamePass}
use Rattle.probe_family.specs.declared.family.Family.{Family}
use Rattle.deque_reach.specs.declared.pass_view.PassView.{PassView}
use Rattle.deque_reach.specs.declared.lane.Lane.{Lane}
use Rattle.deque_reach.specs.Fits.{Fits}
use Rattle.deque_reach.specs.Counts.{Rises}
use Rattle.deque_reach.specs.Lanes.{taken_by, KnowsSame, IsLaneTo, TakesOne, Misses}

pub IfNone_then : {X P Q : Type 0} (o : Option X) → IfNone o P → (P → Q) → IfNone o Q
IfNone_then None p f = f p
IfNone_then (Some x) p f = tt

module _ {A B : Type 0} (R : A → B → Type 0) where
  pub AllZip-length : (xs : List A) (ys : List B) → AllZip R xs ys → length xs ≡ length ys
  AllZip-length [] [] all = refl
  AllZip-length [] (y ∷ ys) all = absurd all
  AllZip-length (x ∷ xs) [] all = absurd all
  AllZip-length (x ∷ xs) (y ∷ ys) all = omega (arith, AllZip-length xs ys all.1)

  pub AllZip-at : (xs : List A) (ys : List B) (i : ℕ) (x : A) (y : B) → i < length xs → x ≡ get_or xs i x → y ≡ get_or ys i y → AllZip R xs ys → R x y
  AllZip-at [] ys i x y low a b all = absurd (omega arith)
  AllZip-at (u ∷ xs) [] i x y low a b all = absurd all
  AllZip-at (u ∷ xs) (v ∷ ys) zero x y low a b all = subst (λ (p : A × B). R p.0 p.1) (λ k. (sym a k, sym b k)) all.0
  AllZip-at (u ∷ xs) (v ∷ ys) (suc i) x y low a b all = AllZip-at xs ys i x y (omega arith) a b all.1

  pub AllZip-changed : (xs : List A) (ys : List B) (i : ℕ) (y z : B) → y ≡ get_or ys i y → ((x : A) → R x y → R x z) → AllZip R xs ys → AllZip R xs (set ys i z)
  AllZip-changed [] [] i y z is keeps all = all
  AllZip-changed [] (v ∷ ys) i y z is keeps all = absurd all
  AllZip-changed (u ∷ xs) [] i y z is keeps all = absurd all
  AllZip-changed (u ∷ xs) (v ∷ ys) zero y z is keeps all = (keeps u (subst (R u) (sym is) all.0), all.1)
  AllZip-changed (u ∷ xs) (v ∷ ys) (suc i) y z is keeps all = (all.0, AllZip-changed xs ys i y z is keeps all.1)

  pub AllZip_push : (xs : List A) (ys : List B) (x : A) (y : B) → AllZip R xs ys → R x y → AllZip R (xs ++ x ∷ []) (ys ++ y ∷ [])
  AllZip_push [] [] x y all one = (one, tt)
  AllZip_push [] (v ∷ ys) x y all one = absurd all
  AllZip_push (u ∷ xs) [] x y all one = absurd all
  AllZip_push (u ∷ xs) (v ∷ ys) x y all one = (all.0, AllZip_push xs ys x y all.1 one)

abbrev misses_by : Lane → ℕ
misses_by l = l.misses

-- the lane i missed
pub lane_missed : (ls : List Lane) (i : ℕ) (old new : Lane) → i < length ls → old ≡ get_or ls i old → Misses old new
    → (map taken_by (set ls i new) ≡ map taken_by ls) × (map (λ l. l.misses) (set ls i new) ≡ set (map (λ l. l.misses) ls) i new.misses) × Rises (get_or (map (λ l. l.misses) ls) i 0) new.misses
lane_missed ls i old new low is m = (
  map-set_same taken_by ls i new old (ap (λ v. v.taken) m.pass ∙ ap taken_by is),
  map-set misses_by ls i new,
  subst (λ n. Rises n new.misses) (ap misses_by is ∙ sym (get_or-map misses_by ls i old 0 low)) m.misses,
)

-- a family was taken with the lane i
pub lane_took : (ls : List Lane) (i : ℕ) (old new : Lane) (f : Family) → i < length ls → old ≡ get_or ls i old → TakesOne old f new
    → (map taken_by (set ls i new) ≡ set (map taken_by ls) i (get_or (map taken_by ls) i [] ++ f ∷ [])) × (map (λ l. l.misses) (set ls i new) ≡ map (λ l. l.misses) ls)
lane_took ls i old new f low is t =
    let before : get_or (map taken_by ls) i [] ≡ taken_by old = get_or-map taken_by ls i old [] low ∙ ap taken_by (sym is) in (
      map-set taken_by ls i new ∙ ap (λ x. set (map taken_by ls) i x) (ap (λ v. v.taken) t.pass ∙ ap (λ x. x ++ f ∷ []) (sym before)),
      map-set_same misses_by ls i new old (t.misses ∙ ap misses_by is),
    )

-- there is a lane to each deque
pub lane_low : (deques : List (RowsId × Global)) (ls : List Lane) (i : ℕ) → i < length deques → AllZip IsLaneTo deques ls → i < length ls
lane_low deques ls i low all = omega (arith, AllZip-length IsLaneTo deques ls all)

-- what fits the deque of a lane fits the other deques
pub known_fits : (v : PassView) (l old : Lane) (f : Family) → old ≡ l → KnowsSame v l → Fits (view old.pass).probes (view old.pass).order f → Fits v.probes v.order f
known_fits v l old f is same fits = subst (λ (p : ℕ × ℕ). Fits p.0 p.1 f) (λ i. ((ap (λ (x : Lane). (view x.pass).probes) is ∙ same.0) i, (ap (λ (x : Lane). (view x.pass).order) is ∙ same.1) i)) fits

-- a pass stays one of its deque
pub kept_pass : (old new : Pass Family PassView Global) → SamePass old new → (deque : RowsId × Global) → IsPassOf deque old → IsPassOf deque new
kept_pass old new same deque of = (same.0 ∙ of.0, same.1 ∙ of.1, same.3, same.4)

-- where nothing was stolen, the first fact of each case holds
pub not_stolen : (A E R : Type 0) (S : Family → Type 0) (r : Steal Family) → MatchSteal r (A × E) (A × R) S → (r ≡ Empty) ⊎ (r ≡ Retry) → A
not_stolen A E R S Empty h e = h.0
not_stolen A E R S Retry h e = h.0
not_stolen A E R S (Success x) h e = absurd (⊎_elim (λ (a : Success x ≡ Empty). cc a) (λ (b : Success x ≡ Retry). cc b) e)
