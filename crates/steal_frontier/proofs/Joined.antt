-- The seats brought together.
use Rattle.std.proofs.Common.{◌≡◌, ℕ, ◌+◌, List, [], ◌∷◌, ◌++◌, Option, Some, None, IfSome, All, length, map, sum_by, sym, refl, ap, ◌∙◌, subst, arith, append-nil}
use Rattle.std.specs.List.{flat_map, AllZip}
use Rattle.std.specs.Option.{option_to_list}
use Rattle.std.proofs.lemmas.List.{map-append}
use Rattle.std.proofs.lemmas.List.Sums.{sum_by-append, sum_by-take-drop}
use Rattle.std.proofs.lemmas.List.Elements.{All-nil, All-append, All-head, All-tail, All-map, All-same, All-weaker}
use Rattle.probe_family.specs.declared.family.Family.{Family}
use Rattle.probe_family.specs.declared.ending.Ended.{Ended}
use Rattle.deque_reach.specs.declared.reach.Reach.{Reach}
use Rattle.deque_reach.specs.Fits.{Fits}
use Rattle.deque_reach.specs.Reaches.{IsReachOf, AreReachesOf, IsLeft, all_pushed_by, all_taken_by}
use Rattle.deque_reach.proofs.Made.{map-composed}
use Rattle.deque_reach.proofs.Weights.{All_one, nil_of}
use Rattle.steal_frontier.specs.declared.frontier.Frontier.{Frontier}
use Rattle.steal_frontier.specs.declared.seat.Seat.{Seat}
use Rattle.probe_family.specs.Often.{families_of}
use Rattle.steal_frontier.specs.Views.{SeatView, Gave, FitsSeat, roots_of, taken_of, waiting_of, pushed_later}
use Rattle.steal_frontier.specs.Seats.{view_of, FitsFrontier, IsSeatOf, AreSeatsOf}
use Rattle.steal_frontier.specs.Gathers.{all_ended, all_waiting, all_roots, Balances}

abbrev pub reaches_of : List Seat → List Reach
reaches_of seats = map (λ s. s.reach) seats

-- the reaches of all seats are all reaches
pub all_reaches : (f : Frontier) (seats : List Seat) → AreSeatsOf f seats → AreReachesOf f.deques (reaches_of seats)
all_reaches f seats are = record {
  each = All-map (IsReachOf f.deques) (λ (s : Seat). s.reach) seats (All-weaker (IsSeatOf f) (λ s. IsReachOf f.deques s.reach) (λ s is. is.reach) seats are.each);
  all = sym (map-composed (λ (r : Reach). r.number) (λ (s : Seat). s.reach) seats) ∙ are.all;
}

-- what fits the seat fits the frontier
pub fits_frontier : (f : Frontier) (s : Seat) (g : Family) → IsReachOf f.deques s.reach → FitsSeat (view_of s) g → FitsFrontier f g
fits_frontier f s g is fits = subst (λ (p : ℕ × ℕ). Fits p.0 p.1 g) (λ i. (is.probes i, is.order i)) fits

pub fits_seat : (f : Frontier) (s : Seat) (g : Family) → IsReachOf f.deques s.reach → FitsFrontier f g → FitsSeat (view_of s) g
fits_seat f s g is fits = subst (λ (p : ℕ × ℕ). Fits p.0 p.1 g) (λ i. (sym is.probes i, sym is.order i)) fits

All-held : (P : Family → Type 0) (v : SeatView) → IfSome v.held P → All P (option_to_list v.held)
All-held P v held = held_all v.held held where
  held_all : (o : Option Family) → IfSome o P → All P (option_to_list o)
  held_all None h = All-nil P
  held_all (Some g) h = All_one P g h

module _ (f : Frontier) where
  pub ended_fit : (seats : List Seat) → All (IsSeatOf f) seats → All (FitsFrontier f) (families_of (all_ended seats))
  ended_fit [] all = All-nil (FitsFrontier f)
  ended_fit (s ∷ seats) all =
      let is = All-head (IsSeatOf f) s seats all in
      let here = All-weaker (FitsSeat (view_of s)) (FitsFrontier f) (λ g fits. fits_frontier f s g is.reach fits) (families_of (view_of s).ended) is.sound.ended in
      All-same (FitsFrontier f) _ _ (map-append (λ (e : Ended). e.family) (view_of s).ended (all_ended seats)) (All-append (FitsFrontier f) (families_of (view_of s).ended) (families_of (all_ended seats)) here (ended_fit seats (All-tail (IsSeatOf f) s seats all)))

  pub waiting_fit : (seats : List Seat) → All (IsSeatOf f) seats → All (FitsFrontier f) (all_waiting seats)
  waiting_fit [] all = All-nil (FitsFrontier f)
  waiting_fit (s ∷ seats) all =
      let is = All-head (IsSeatOf f) s seats all in
      let waiting : All (FitsSeat (view_of s)) (waiting_of (view_of s)) = All-append (FitsSeat (view_of s)) (option_to_list (view_of s).held) (view_of s).stack (All-held (FitsSeat (view_of s)) (view_of s) is.sound.held) is.sound.stack in
      let here = All-weaker (FitsSeat (view_of s)) (FitsFrontier f) (λ g fits. fits_frontier f s g is.reach fits) (waiting_of (view_of s)) waiting in
      All-append (FitsFrontier f) (waiting_of (view_of s)) (all_waiting seats) here (waiting_fit seats (All-tail (IsSeatOf f) s seats all))

-- of one seat: what it gave and took, and its roots, are what it pushed and has
seat_weighs : (h : Family → ℕ) (v : SeatView) (given : List Family) → Gave v given
    → sum_by h given + sum_by h (taken_of v) + sum_by h (roots_of v) ≡ sum_by h v.reach.pushed + sum_by h (waiting_of v) + sum_by h (families_of v.ended)
seat_weighs h v given g =
    omega (arith, g h, sum_by-append h given (taken_of v), sum_by-append h (pushed_later v ++ waiting_of v) (families_of v.ended), sum_by-append h (pushed_later v) (waiting_of v), sum_by-take-drop h v.reach.pushed v.roots)

-- of all seats
seats_weigh : (h : Family → ℕ) (seats : List Seat) (given : List (List Family)) → AllZip (λ s families. Gave (view_of s) families) seats given
    → sum_by h (flat_map (λ families. families) given) + sum_by h (all_taken_by (reaches_of seats)) + sum_by h (all_roots seats)
    ≡ sum_by h (all_pushed_by (reaches_of seats)) + sum_by h (all_waiting seats) + sum_by h (families_of (all_ended seats))
seats_weigh h [] [] all = refl
seats_weigh h [] (g ∷ given) all = absurd all
seats_weigh h (s ∷ seats) [] all = absurd all
seats_weigh h (s ∷ seats) (g ∷ given) all =
    let v = view_of s in
    omega (
      arith,
      seat_weighs h v g all.0,
      seats_weigh h seats given all.1,
      sum_by-append h g (flat_map (λ families. families) given),
      sum_by-append h (taken_of v) (all_taken_by (reaches_of seats)),
      sum_by-append h (roots_of v) (all_roots seats),
      sum_by-append h v.reach.pushed (all_pushed_by (reaches_of seats)),
      sum_by-append h (waiting_of v) (all_waiting seats),
      ap (sum_by h) (map-append (λ (e : Ended). e.family) v.ended (all_ended seats)),
      sum_by-append h (families_of v.ended) (families_of (all_ended seats)),
    )

pub all_balance : (seats : List Seat) (in_deques : List Family) → IsLeft (reaches_of seats) in_deques → Balances seats (all_ended seats) (all_waiting seats ++ in_deques)
all_balance seats in_deques left given gave h =
    omega (
      arith,
      left h,
      seats_weigh h seats given gave,
      sum_by-append h (all_taken_by (reaches_of seats)) in_deques,
      sum_by-append h (families_of (all_ended seats)) (all_waiting seats ++ in_deques),
      sum_by-append h (all_waiting seats) in_deques,
      sum_by-append h (all_roots seats) (flat_map (λ families. families) given),
    )

pub balance_as : (seats : List Seat) (ended : List Ended) (left in_deques : List Family) → ended ≡ all_ended seats → left ≡ all_waiting seats ++ in_deques → IsLeft (reaches_of seats) in_deques → Balances seats ended left
balance_as seats ended left in_deques e f there = subst (λ (p : List Ended × List Family). Balances seats p.0 p.1) (λ t. (sym e t, sym f t)) (all_balance seats in_deques there)

-- all seats came
pub all_came : (came rest seats : List Seat) → came ++ rest ≡ seats → length rest ≡ 0 → came ≡ seats
all_came came rest seats all none = sym (append-nil came) ∙ ap (λ l. came ++ l) (sym (nil_of rest none)) ∙ all
