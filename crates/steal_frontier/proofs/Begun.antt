-- The seats that a frontier begins with.
use Rattle.std.proofs.Common.{◌≡◌, ℕ, zero, suc, ◌+◌, ◌%◌, ◌<◌, ◌≤◌, Bool, true, false, cond, eqb, eq-eqb, ne_eqb, List, [], ◌∷◌, ◌++◌, None, All, length, get_or, set, map, take, replicate, sum_by, sym, refl, ap, ◌∙◌, subst, arith, length-append, append_assoc, append-nil, add-zero, zero-add, ⊎_elim}
use Rattle.std.specs.List.{flat_map, range_with_len}
use Rattle.std.proofs.Math.Seq.{take-length}
use Rattle.std.proofs.lemmas.Bool.{cases_eq}
use Rattle.std.proofs.lemmas.List.{map-append, length-map, get_or-map, get_or-set_same, get_or-set_other}
use Rattle.std.proofs.lemmas.List.FromFn.{length-range_with_len, get_or-map-range_with_len}
use Rattle.std.proofs.lemmas.List.Sums.{sum_by-cons, sum_by-take-drop}
use Rattle.std.proofs.lemmas.List.Elements.{All-nil, All-get_or, All-head}
use Rattle.probe_family.specs.declared.family.Family.{Family}
use Rattle.deque_reach.specs.declared.deques.Deques.{Deques}
use Rattle.deque_reach.specs.declared.reach.Reach.{Reach}
use Rattle.probe_family.specs.Often.{AsOften}
use Rattle.deque_reach.specs.Fits.{Fits}
use Rattle.deque_reach.specs.Views.{ReachView, new_view, new_views}
use Rattle.deque_reach.specs.Reaches as Reaches
use Rattle.deque_reach.specs.Reaches.{deques_of, IsReachOf, AreReachesOf}
use Rattle.deque_reach.proofs.Weights.{sum_by-flat_map, All_parts}
use Rattle.deque_reach.proofs.Drained.{All-from_map}
use Rattle.steal_frontier.specs.declared.frontier.Frontier.{Frontier}
use Rattle.steal_frontier.specs.declared.seat.Seat.{Seat}
use Rattle.steal_frontier.specs.Views.{SeatView, Gave, IsSound, FitsSeat, roots_of}
use Rattle.steal_frontier.specs.Seats.{view_of, room_of, workers_of, IsSeatOf, AreSeatsOf}
use Rattle.steal_frontier.specs.Dealt.{dealt_from, dealt, new_seat, with_roots, first_seat, first_seats, IsNewSeat, GainsRoots, DealsTo}
use Rattle.steal_frontier.proofs.Tried.{keeps_deques-refl, keeps_deques-trans}
use Rattle.steal_frontier.proofs.Balanced.{gave}

-- one more family is dealt
cond_push : (b : Bool) (y : Family) (old new more : List Family) → new ≡ old ++ more → cond b (y ∷ new) new ≡ cond b (y ∷ old) old ++ more
cond_push true y old new more e = ap (λ l. y ∷ l) e
cond_push false y old new more e = e

dealt_here : (k w i : ℕ) (xs : List Family) (x : Family) (n : ℕ) → n ≡ k + length xs → n % w ≡ i → dealt_from k w i (xs ++ x ∷ []) ≡ dealt_from k w i xs ++ x ∷ []
dealt_here k w i [] x n e h = let at : n ≡ k = omega arith in ap (λ b. cond b (x ∷ []) []) (eq-eqb (k % w) i (ap (λ m. m % w) (sym at) ∙ h))
dealt_here k w i (y ∷ ys) x n e h = cond_push (eqb (k % w) i) y (dealt_from (k + 1) w i ys) (dealt_from (k + 1) w i (ys ++ x ∷ [])) (x ∷ []) (dealt_here (k + 1) w i ys x n (omega arith) h)

dealt_other : (k w i : ℕ) (xs : List Family) (x : Family) (n : ℕ) → n ≡ k + length xs → (n % w ≡ i → ⊥) → dealt_from k w i (xs ++ x ∷ []) ≡ dealt_from k w i xs
dealt_other k w i [] x n e h = let at : n ≡ k = omega arith in ap (λ b. cond b (x ∷ []) []) (ne_eqb (k % w) i (λ (s : k % w ≡ i). h (ap (λ m. m % w) at ∙ s)))
dealt_other k w i (y ∷ ys) x n e h = ap (λ l. cond (eqb (k % w) i) (y ∷ l) l) (dealt_other (k + 1) w i ys x n (omega arith) h)

cond-length : (b : Bool) (y : Family) (l : List Family) → length (cond b (y ∷ l) l) ≤ suc (length l)
cond-length true y l = omega arith
cond-length false y l = omega arith

pub dealt-length : (k w i : ℕ) (xs : List Family) → length (dealt_from k w i xs) ≤ length xs
dealt-length k w i [] = omega arith
dealt-length k w i (y ∷ ys) = omega (arith, cond-length (eqb (k % w) i) y (dealt_from (k + 1) w i ys), dealt-length (k + 1) w i ys)

-- what all workers get weighs what is dealt
sum_by-plus : {X : Type 0} (f g : X → ℕ) (l : List X) → sum_by (λ x. f x + g x) l ≡ sum_by f l + sum_by g l
sum_by-plus f g [] = refl
sum_by-plus f g (x ∷ xs) = omega (arith, sum_by-cons (λ a. f a + g a) x xs, sum_by-cons f x xs, sum_by-cons g x xs, sum_by-plus f g xs)

sum_by_none : {X : Type 0} (l : List X) → sum_by (λ _. 0) l ≡ 0
sum_by_none [] = refl
sum_by_none (x ∷ xs) = omega (arith, sum_by-cons (λ _. 0) x xs, sum_by_none xs)

share : ℕ → ℕ → ℕ → ℕ
share j c i = cond (eqb j i) c 0

share_is : (j c i : ℕ) → share j c i ≡ cond (eqb j i) c 0
unfolding share
share_is j c i = refl

share_here : (j c : ℕ) → share j c j ≡ c
share_here j c = share_is j c j ∙ ap (λ b. cond b c 0) (eq-eqb j j refl)

share_other : (j c i : ℕ) → (j ≡ i → ⊥) → share j c i ≡ 0
share_other j c i ne = share_is j c i ∙ ap (λ b. cond b c 0) (ne_eqb j i ne)

share_past : (j c a n : ℕ) → j < a → sum_by (share j c) (range_with_len a n) ≡ 0
share_past j c a zero low = refl
share_past j c a (suc n) low = omega (arith, sum_by-cons (share j c) a (range_with_len (a + 1) n), share_other j c a (λ e. omega arith), share_past j c (a + 1) n (omega arith))

share_of_one : (j c a n : ℕ) → a ≤ j → j < a + n → sum_by (share j c) (range_with_len a n) ≡ c
share_of_one j c a zero low high = absurd (omega arith)
share_of_one j c a (suc n) low high =
    let first = sum_by-cons (share j c) a (range_with_len (a + 1) n) in
    ⊎_elim
    (λ (e : j ≡ a). omega (arith, subst (λ i. share j c i ≡ c) e (share_here j c), share_past j c (a + 1) n (omega arith)))
    (λ (ne : j ≡ a → ⊥). omega (arith, share_other j c a ne, share_of_one j c (a + 1) n (omega arith) (omega arith)))
    (cases_eq j a)

cond_weight : (h : Family → ℕ) (b : Bool) (y : Family) (l : List Family) → sum_by h (cond b (y ∷ l) l) ≡ cond b (h y) 0 + sum_by h l
cond_weight h true y l = sum_by-cons h y l
cond_weight h false y l = omega arith

first_weight : (h : Family → ℕ) (k w i : ℕ) (y : Family) (ys : List Family) → sum_by h (dealt_from k w i (y ∷ ys)) ≡ share (k % w) (h y) i + sum_by h (dealt_from (k + 1) w i ys)
first_weight h k w i y ys = omega (arith, cond_weight h (eqb (k % w) i) y (dealt_from (k + 1) w i ys), share_is (k % w) (h y) i)

dealt-weight : (h : Family → ℕ) (w : ℕ) → ((k : ℕ) → k % w < w) → (k : ℕ) (xs : List Family) → sum_by (λ i. sum_by h (dealt_from k w i xs)) (range_with_len 0 w) ≡ sum_by h xs
dealt-weight h w low k [] = sum_by_none (range_with_len 0 w)
dealt-weight h w low k (y ∷ ys) =
    ap (λ (f : ℕ → ℕ). sum_by f (range_with_len 0 w)) (λ t i. first_weight h k w i y ys t)
    ∙ omega (
      arith,
      sum_by-plus (share (k % w) (h y)) (λ i. sum_by h (dealt_from (k + 1) w i ys)) (range_with_len 0 w),
      share_of_one (k % w) (h y) 0 w (omega arith) (omega (arith, low k)),
      dealt-weight h w low (k + 1) ys,
      sum_by-cons h y ys,
    )

pub get_or-any : {X : Type 0} (xs : List X) (k : ℕ) (d e : X) → k < length xs → get_or xs k d ≡ get_or xs k e
get_or-any [] k d e low = absurd (omega arith)
get_or-any (x ∷ xs) zero d e low = refl
get_or-any (x ∷ xs) (suc k) d e low = get_or-any xs k d e (omega arith)

-- roots after roots
abbrev pushing : SeatView → List Family → ℕ → SeatView
pushing v pushed roots = record v { reach = record v.reach { pushed = pushed }; roots = roots }

pushing_same : (v : SeatView) (p q : List Family) (m n : ℕ) → p ≡ q → m ≡ n → pushing v p m ≡ pushing v q n
pushing_same v p q m n e f = λ t. pushing v (e t) (f t)

pub gains_none : (s : Seat) → GainsRoots s [] s
gains_none s = record {
  view = pushing_same (view_of s) (view_of s).reach.pushed ((view_of s).reach.pushed ++ []) (view_of s).roots ((view_of s).roots + 0) (sym (append-nil (view_of s).reach.pushed)) (sym (add-zero (view_of s).roots));
  deques = keeps_deques-refl s.reach;
  room = refl;
}

pub gains_more : (a b c : Seat) (xs : List Family) (x : Family) → GainsRoots a xs b → GainsRoots b (x ∷ []) c → GainsRoots a (xs ++ x ∷ []) c
gains_more a b c xs x g h = record {
  view =
      let v = view_of a in
      h.view
      ∙ ap (λ (u : SeatView). with_roots u (x ∷ [])) g.view
      ∙ pushing_same v (v.reach.pushed ++ xs ++ x ∷ []) (v.reach.pushed ++ (xs ++ x ∷ [])) (v.roots + length xs + 1) (v.roots + length (xs ++ x ∷ [])) (append_assoc v.reach.pushed xs (x ∷ [])) (omega (arith, length-append xs (x ∷ [])));
  deques = keeps_deques-trans a.reach b.reach c.reach g.deques h.deques;
  room = h.room ∙ g.room;
}

-- no root was dealt yet
pub deals_none : (seats : List Seat) → DealsTo seats [] seats
deals_none seats i d low = gains_none (get_or seats i d)

-- one more root was dealt
pub deals_more : (old now : List Seat) (xs : List Family) (x : Family) (at : ℕ) (was new : Seat) → length now ≡ length old → at < length old → at ≡ length xs % length old → was ≡ get_or now at was
    → DealsTo old xs now → GainsRoots was (x ∷ []) new → DealsTo old (xs ++ x ∷ []) (set now at new)
deals_more old now xs x at was new count low place is deals gains i d within =
    let w = length old in
    let start : length xs ≡ 0 + length xs = omega arith in
    ⊎_elim
    (λ (e : i ≡ at).
    let here : length xs % w ≡ i = sym place ∙ sym e in
    let whole : dealt w i (xs ++ x ∷ []) ≡ dealt w i xs ++ x ∷ [] = dealt_here 0 w i xs x (length xs) start here in
    let there : get_or (set now at new) i d ≡ new = ap (λ k. get_or (set now at new) k d) e ∙ get_or-set_same now at new d (omega arith) in
    let before : GainsRoots (get_or old i d) (dealt w i xs) was = subst (GainsRoots (get_or old i d) (dealt w i xs)) (ap (λ k. get_or now k d) e ∙ get_or-any now at d was (omega arith) ∙ sym is) (deals i d within) in
    subst (λ (p : List Family × Seat). GainsRoots (get_or old i d) p.0 p.1) (λ t. (sym whole t, sym there t)) (gains_more (get_or old i d) was new (dealt w i xs) x before gains))
    (λ (ne : i ≡ at → ⊥).
    let other : length xs % w ≡ i → ⊥ = λ s. ne (sym s ∙ sym place) in
    let same : dealt w i (xs ++ x ∷ []) ≡ dealt w i xs = dealt_other 0 w i xs x (length xs) start other in
    let there : get_or (set now at new) i d ≡ get_or now i d = get_or-set_other now at i new d ne in
    subst (λ (p : List Family × Seat). GainsRoots (get_or old i d) p.0 p.1) (λ t. (sym same t, sym there t)) (deals i d within))
    (cases_eq i at)

-- lists by what stands at each place
listed : {A B : Type 0} (f : A → B) (g : ℕ → B) (a : ℕ) (xs : List A) → ((k : ℕ) (d : A) → k < length xs → f (get_or xs k d) ≡ g (a + k)) → map f xs ≡ map g (range_with_len a (length xs))
listed f g a [] at = refl
listed f g a (x ∷ xs) at = λ t.
    (at 0 x (omega arith) ∙ ap g (add-zero a)) t
    ∷ listed f g (a + 1) xs (λ k d low. at (suc k) d (omega arith) ∙ ap g (omega arith)) t

map-itself : (xs : List ℕ) → map (λ x. x) xs ≡ xs
map-itself [] = refl
map-itself (x ∷ xs) = ap (λ ys. x ∷ ys) (map-itself xs)

sum_by-map : {A B : Type 0} (h : B → ℕ) (f : A → B) (xs : List A) → sum_by h (map f xs) ≡ sum_by (λ x. h (f x)) xs
sum_by-map h f [] = refl
sum_by-map h f (x ∷ xs) = omega (arith, sum_by-cons h (f x) (map f xs), sum_by-cons (λ a. h (f a)) x xs, sum_by-map h f xs)

-- the roots of a seat as a frontier begins
first_roots : (workers probes order : ℕ) (roots : List Family) (i : ℕ) → roots_of (first_seat workers probes order roots i) ≡ dealt workers i roots
first_roots workers probes order roots i = ap (λ n. take n (dealt workers i roots)) (zero-add (length (dealt workers i roots))) ∙ take-length (dealt workers i roots)

-- all seats together have the roots
pub roots_dealt : (workers probes order : ℕ) (roots : List Family) → ((k : ℕ) → k % workers < workers) → AsOften (flat_map roots_of (first_seats workers probes order roots)) roots
roots_dealt workers probes order roots low h =
    sum_by-flat_map h roots_of (first_seats workers probes order roots)
    ∙ sum_by-map (λ (v : SeatView). sum_by h (roots_of v)) (first_seat workers probes order roots) (range_with_len 0 workers)
    ∙ ap (λ (f : ℕ → ℕ). sum_by f (range_with_len 0 workers)) (λ t i. sum_by h (first_roots workers probes order roots i t))
    ∙ dealt-weight h workers low 0 roots

no_weight : (h : Family → ℕ) (n : ℕ) → sum_by (λ fs. sum_by h fs) (replicate n []) ≡ 0
no_weight h zero = refl
no_weight h (suc n) = omega (arith, sum_by-cons (λ (fs : List Family). sum_by h fs) [] (replicate n []), no_weight h n)

-- a seat gave nothing yet
first_gave : (workers probes order : ℕ) (roots : List Family) (i : ℕ) → Gave (first_seat workers probes order roots i) []
first_gave workers probes order roots i = gave (first_seat workers probes order roots i) [] (λ h.
    let mine = dealt workers i roots in
    omega (arith, no_weight h workers, sum_by-take-drop h mine (0 + length mine), ap (λ n. sum_by h (take n mine)) (zero-add (length mine)), ap (sum_by h) (take-length mine)))

first_sound : (reach : ReachView) (roots : List Family) → IsSound (with_roots (new_seat reach) roots)
first_sound reach roots = record {
  stack = All-nil (FitsSeat (with_roots (new_seat reach) roots));
  held = tt;
  ended = All-nil (FitsSeat (with_roots (new_seat reach) roots));
  roots = omega (arith, length-append reach.pushed roots);
}

-- what is known of the seats of a new frontier
module _ (deques : Deques) (workers probes order : ℕ) (reaches : List Reach) (before : List Seat) (roots : List Family)
    (number : length (deques_of deques) ≡ workers) (are : AreReachesOf deques reaches) (views : map Reaches.view_of reaches ≡ new_views workers probes order)
    (theirs : map (λ s. s.reach) before ≡ reaches) (new : All IsNewSeat before) where
  before_count : length before ≡ workers
  before_count = sym (length-map before (λ s. s.reach)) ∙ ap length theirs ∙ sym (length-map reaches Reaches.view_of) ∙ ap length views ∙ length-map (range_with_len 0 workers) (new_view workers probes order) ∙ length-range_with_len 0 workers

  reach_at : (k : ℕ) (d : Seat) → k < length before → Reaches.view_of (get_or before k d).reach ≡ new_view workers probes order k
  reach_at k d low =
      let few = before_count in
      let here : get_or reaches k d.reach ≡ (get_or before k d).reach = ap (λ rs. get_or rs k d.reach) (sym theirs) ∙ get_or-map (λ (s : Seat). s.reach) before k d d.reach low in
      let many = ap length theirs in
      let mapped = length-map before (λ (s : Seat). s.reach) in
      let e = new_view workers probes order k in
      ap Reaches.view_of (sym here)
      ∙ sym (get_or-map Reaches.view_of reaches k d.reach e (omega arith))
      ∙ ap (λ vs. get_or vs k e) views
      ∙ get_or-map-range_with_len (new_view workers probes order) 0 workers k k e (omega arith) (omega arith)

  pub roots_fit : All (Fits probes order) roots → All (λ seat. All (FitsSeat (view_of seat)) roots) before
  roots_fit fit k d low = subst (λ (r : ReachView). All (Fits r.probes r.order) roots) (sym (reach_at k d low)) fit

  module _ (now : List Seat) (count : length now ≡ length before) (deals : DealsTo before roots now) where
    view_at : (k : ℕ) (d : Seat) → k < length now → view_of (get_or now k d) ≡ first_seat workers probes order roots k
    view_at k d low =
        let few = before_count in
        let within : k < length before = omega arith in
        (deals k d within).view
        ∙ ap (λ (v : SeatView). with_roots v (dealt (length before) k roots)) ((All-get_or IsNewSeat before k d within new).view ∙ ap new_seat (reach_at k d within))
        ∙ ap (λ n. with_roots (new_seat (new_view workers probes order k)) (dealt n k roots)) few

    pub seats_views : map view_of now ≡ first_seats workers probes order roots
    seats_views =
        let few : length now ≡ workers = count ∙ before_count in
        listed view_of (first_seat workers probes order roots) 0 now (λ k d low. view_at k d low ∙ ap (first_seat workers probes order roots) (sym (zero-add k))) ∙ ap (λ n. map (first_seat workers probes order roots) (range_with_len 0 n)) few

    pub seats_gave : All (λ seat. Gave (view_of seat) []) now
    seats_gave k d low = subst (λ (v : SeatView). Gave v []) (sym (view_at k d low)) (first_gave workers probes order roots k)

    pub seats_room : All (λ seat. room_of seat ≡ None) now
    seats_room k d low = let within : k < length before = omega arith in (deals k d within).room ∙ (All-get_or IsNewSeat before k d within new).room

    seat_at : (f : Frontier) → f.deques ≡ deques → (k : ℕ) (d : Seat) → k < length now → IsSeatOf f (get_or now k d)
    seat_at f is k d low =
        let within : k < length before = omega arith in
        let all : All (IsReachOf deques) (map (λ s. s.reach) before) = subst (All (IsReachOf deques)) (sym theirs) are.each in
        let old : IsReachOf deques (get_or before k d).reach = All-get_or (λ (s : Seat). IsReachOf deques s.reach) before k d within (All-from_map (IsReachOf deques) (λ (s : Seat). s.reach) before all) in record {
          reach = subst (λ (q : Deques). IsReachOf q (get_or now k d).reach) (sym is) ((deals k d within).deques.deques deques old);
          sound = subst IsSound (sym (view_at k d low)) (first_sound (new_view workers probes order k) (dealt workers k roots));
        }

    pub seats_are : (f : Frontier) → f.deques ≡ deques → AreSeatsOf f now
    seats_are f is = record {
      each = λ k d low. seat_at f is k d low;
      all =
          let few : length now ≡ workers_of f = count ∙ before_count ∙ sym number ∙ ap (λ (q : Deques). length (deques_of q)) (sym is) in
          listed (λ (s : Seat). (view_of s).reach.number) (λ k. k) 0 now (λ k d low. ap (λ (v : SeatView). v.reach.number) (view_at k d low) ∙ sym (zero-add k)) ∙ map-itself (range_with_len 0 (length now)) ∙ ap (range_with_len 0) few;
    }

-- one more seat
pub reaches_more : (seats more : List Seat) (s : Seat) (reaches : List Reach) (r : Reach) → more ≡ seats ++ s ∷ [] → map (λ x. x.reach) seats ≡ reaches → s.reach ≡ r → map (λ x. x.reach) more ≡ reaches ++ r ∷ []
reaches_more seats more s reaches r is before here = ap (map (λ (x : Seat). x.reach)) is ∙ map-append (λ (x : Seat). x.reach) seats (s ∷ []) ∙ (λ t. before t ++ here t ∷ [])

-- the root that is dealt next fits the seat that it goes to
pub root_fits : (old now : List Seat) (xs rest roots : List Family) (x : Family) (at : ℕ) (was : Seat) → length now ≡ length old → at < length old → was ≡ get_or now at was → xs ++ x ∷ rest ≡ roots
    → DealsTo old xs now → All (λ seat. All (FitsSeat (view_of seat)) roots) old → FitsSeat (view_of was) x
root_fits old now xs rest roots x at was count low is all deals fit =
    let here : All (FitsSeat (view_of (get_or old at was))) roots = All-get_or (λ (s : Seat). All (FitsSeat (view_of s)) roots) old at was low fit in
    let one : FitsSeat (view_of (get_or old at was)) x = All-head (FitsSeat (view_of (get_or old at was))) x rest (All_parts (FitsSeat (view_of (get_or old at was))) xs (x ∷ rest) (subst (All (FitsSeat (view_of (get_or old at was)))) (sym all) here)).1 in
    let view : view_of was ≡ with_roots (view_of (get_or old at was)) (dealt (length old) at xs) = ap view_of is ∙ (deals at was low).view in
    subst (λ (v : SeatView). FitsSeat v x) (sym view) one

-- it has not many roots
pub few_roots : (old now : List Seat) (xs rest roots : List Family) (x : Family) (at : ℕ) (was : Seat) → length now ≡ length old → at < length old → was ≡ get_or now at was → xs ++ x ∷ rest ≡ roots
    → DealsTo old xs now → All IsNewSeat old → was.roots + 1 ≤ length roots
few_roots old now xs rest roots x at was count low is all deals new =
    let view : view_of was ≡ with_roots (view_of (get_or old at was)) (dealt (length old) at xs) = ap view_of is ∙ (deals at was low).view in
    let none : (get_or old at was).roots ≡ 0 = ap (λ (v : SeatView). v.roots) (All-get_or IsNewSeat old at was low new).view in
    let some : was.roots ≡ (get_or old at was).roots + length (dealt (length old) at xs) = ap (λ (v : SeatView). v.roots) view in
    omega (arith, dealt-length 0 (length old) at xs, length-append xs (x ∷ rest), ap length all)
