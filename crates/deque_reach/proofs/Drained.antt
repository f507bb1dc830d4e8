-- Deques while they are drained: what the owners and the lanes that are left weigh.
use Rattle.std.proofs.Common.{◌≡◌, ℕ, zero, suc, ◌+◌, ◌<◌, List, [], ◌∷◌, ◌++◌, All, length, map, take, drop, get_or, sum_by, slice_get, Some, true, sym, refl, ap, ◌∙◌, subst, arith, add-one, length-append, append_assoc, append-nil}
use Rattle.std.specs.List.{AllZip, flat_map, range_with_len}
use Rattle.std.proofs.lemmas.List.{take_more, get_or-map, length-map, drop_all}
use Rattle.std.proofs.lemmas.List.FromFn.{length-range_with_len}
use Rattle.std.proofs.lemmas.List.Sums.{sum_by-append}
use Rattle.std.proofs.lemmas.List.Concat.{flat_map-append}
use Rattle.std.proofs.lemmas.List.Folds.{flat_map-map}
use Rattle.std.proofs.lemmas.List.Elements.{All-append, All-nil, All-head, All-tail, All-weaker, All-map}
use lib.Seq.{take-append_seam}
use Rattle.std.specs.Global.{Global}
use Rattle.atomic_blocks.specs.Lent.{RowsId}
use Rattle.crossbeam_deque.specs.Handles.{worker_deque, worker_flavor, worker_view}
use Rattle.probe_family.specs.declared.family.Family.{Family}
use Rattle.deque_reach.specs.declared.pass_view.PassView.{PassView}
use Rattle.deque_reach.specs.declared.lane.Lane.{Lane}
use Rattle.deque_reach.specs.declared.reach.Reach.{Reach}
use Rattle.deque_reach.specs.declared.deques.Deques.{Deques}
use Rattle.probe_family.specs.Often.{AsOften}
use Rattle.deque_reach.specs.Fits.{Fits}
use Rattle.deque_reach.specs.Rule.{all_parts}
use Rattle.deque_reach.specs.Steps.{Balances}
use Rattle.deque_reach.specs.Lanes.{taken_by, IsLaneTo}
use Rattle.deque_reach.specs.Rows.{Owner}
use Rattle.deque_reach.specs.Ends.{StartsTo, others, first_taken, JoinsFirsts, Drains}
use Rattle.deque_reach.specs.Reaches.{deques_of, probes_of, order_of, IsReachOf, AreReachesOf, all_pushed_by, all_taken_by}
use Rattle.deque_reach.proofs.Made.{map-composed}

-- ---- one deque

-- two rounds of first lanes
pub joins_both : (a b c : Owner) (xs ys : List (List Lane)) → JoinsFirsts a xs b → JoinsFirsts b ys c → JoinsFirsts a (xs ++ ys) c
joins_both a b c xs ys p q = record {
  deque = q.deque ∙ p.deque;
  flavor = q.flavor ∙ p.flavor;
  view =
      let more : PassView → PassView = λ v. record v { parts = v.parts + length ys; taken = v.taken ++ flat_map first_taken ys } in
      let with : ℕ → List Family → PassView = λ n fs. record (worker_view a) { parts = n; taken = fs } in
      let parts : ((worker_view a).parts + length xs) + length ys ≡ (worker_view a).parts + length (xs ++ ys) = omega (arith, length-append xs ys) in
      let taken : ((worker_view a).taken ++ flat_map first_taken xs) ++ flat_map first_taken ys ≡ (worker_view a).taken ++ flat_map first_taken (xs ++ ys) =
      append_assoc (worker_view a).taken (flat_map first_taken xs) (flat_map first_taken ys) ∙ ap (λ fs. (worker_view a).taken ++ fs) (sym (flat_map-append first_taken xs ys)) in
      q.view ∙ ap more p.view ∙ (λ i. with (parts i) (taken i));
}

pub joins_none : (a : Owner) → JoinsFirsts a [] a
joins_none a = record {
  deque = refl;
  flavor = refl;
  view =
      let with : ℕ → List Family → PassView = λ n fs. record (worker_view a) { parts = n; taken = fs } in
      let parts : (worker_view a).parts ≡ (worker_view a).parts + 0 = omega arith in
      let taken : (worker_view a).taken ≡ (worker_view a).taken ++ [] = sym (append-nil (worker_view a).taken) in
      (λ i. with (parts i) (taken i));
}

-- the first lane of one more row
pub joins_next : {X : Type 0} (f : X → List Lane) (a b c : Owner) (xs ys : List X) (i : ℕ) (d : X) → i < length xs → get_or ys i d ≡ get_or xs i d → JoinsFirsts a (take i (map f xs)) b
    → JoinsFirsts b (f (get_or ys i d) ∷ []) c → JoinsFirsts a (take (i + 1) (map f xs)) c
joins_next f a b c xs ys i d low same p q =
    let here : get_or (map f xs) i (f d) ≡ f (get_or ys i d) = get_or-map f xs i d (f d) low ∙ ap f (sym same) in
    subst (λ rows. JoinsFirsts a rows c) (sym (take_more (map f xs) i (f d) (omega (arith, length-map xs f)) ∙ ap (λ row. take i (map f xs) ++ row ∷ []) here)) (joins_both a b c (take i (map f xs)) (f (get_or ys i d) ∷ []) p q)

pub All-from_map : {X Y : Type 0} (P : Y → Type 0) (f : X → Y) (xs : List X) → All P (map f xs) → All (λ x. P (f x)) xs
All-from_map P f xs all k d low = subst P (get_or-map f xs k d (f d) low) (all k (f d) (omega (arith, length-map xs f)))

-- a slice of the whole list was written back
pub written_rows : {X Y : Type 0} (f : X → Y) (n : ℕ) (new rest : List X) → n ≡ length new → map f (take n (new ++ rest)) ≡ map f new
written_rows f n new rest is = ap (map f) (ap (λ k. take k (new ++ rest)) is ∙ take-append_seam new rest)

-- lists that agree at each place
pub map-agree : {X Y : Type 0} (f g : X → Y) (xs ys : List X) → length ys ≡ length xs → ((k : ℕ) (d : X) → k < length xs → f (get_or ys k d) ≡ g (get_or xs k d)) → map f ys ≡ map g xs
map-agree f g [] [] same each = refl
map-agree f g [] (y ∷ ys) same each = absurd (omega arith)
map-agree f g (x ∷ xs) [] same each = absurd (omega arith)
map-agree f g (x ∷ xs) (y ∷ ys) same each = λ i. each 0 x (omega arith) i ∷ map-agree f g xs ys (omega arith) (λ k d low. each (suc k) d (omega arith)) i

-- what a pass that knows the whole finds, after it took a rest
pub drained : (v u : PassView) (rest : List Family) → u ≡ record v { taken = v.taken ++ rest } → Balances u [] → AsOften v.pushed (v.taken ++ rest)
drained v u rest is found = subst (λ (x : PassView). AsOften x.pushed x.taken) is (λ h. found h ∙ ap (sum_by h) (append-nil u.taken))

pub took_one : (v u w : PassView) (rest : List Family) (f : Family) → u ≡ record v { taken = v.taken ++ rest } → w ≡ record u { taken = u.taken ++ f ∷ [] } → w ≡ record v { taken = v.taken ++ (rest ++ f ∷ []) }
took_one v u w rest f is next =
    let more : PassView → PassView = λ x. record x { taken = x.taken ++ f ∷ [] } in
    let with : List Family → PassView = λ fs. record v { taken = fs } in
    next ∙ ap more is ∙ ap with (append_assoc v.taken rest (f ∷ []))

pub took_fitting : (v u : PassView) (rest : List Family) (f : Family) → u ≡ record v { taken = v.taken ++ rest } → All (Fits v.probes v.order) rest → All (Fits u.probes u.order) (f ∷ []) → All (Fits v.probes v.order) (rest ++ f ∷ [])
took_fitting v u rest f is all one = All-append (Fits v.probes v.order) rest (f ∷ []) all (subst (λ (x : PassView). All (Fits x.probes x.order) (f ∷ [])) is one)

-- ---- all deques

abbrev pub pushed_by : List Owner → List Family
pushed_by owners = flat_map (λ (o : Owner). (worker_view o).pushed) owners

abbrev pub popped_by : List Owner → List Family
popped_by owners = flat_map (λ (o : Owner). (worker_view o).taken) owners

abbrev pub stolen_with : List (List Lane) → List Family
stolen_with rows = flat_map (flat_map taken_by) rows

-- an owner whose deque waits to be drained, with so many lanes to it
pub record IsWaiting (count over at_most : ℕ) (o : Owner) : Type 0 where
  pub fifo : worker_flavor o ≡ 0
  pub begun : (worker_view o).begun ≡ true
  pub some : 0 < (worker_view o).parts
  pub parts : (worker_view o).parts + count ≡ all_parts
  pub probes : (worker_view o).probes ≡ over
  pub order : (worker_view o).order ≡ at_most

-- Of all owners and lanes these wait, and the rest was drained
pub record Drained (count over at_most : ℕ) (all owners : List Owner) (lanes rows : List (List Lane)) (left : List Family) : Type 0 where
  pub waiting : All (IsWaiting count over at_most) owners
  pub to_each : All (AllZip IsLaneTo (map worker_deque owners)) rows
  pub number : length rows ≡ count
  pub balance : (h : Family → ℕ) → sum_by h (pushed_by all) + (sum_by h (popped_by owners) + sum_by h (stolen_with rows))
      ≡ (sum_by h (pushed_by owners) + (sum_by h (popped_by all) + sum_by h (stolen_with lanes))) + sum_by h left
  pub fits : All (Fits over at_most) left

starts_to : (deque : RowsId × Global) (deques : List (RowsId × Global)) (row : List Lane) → AllZip IsLaneTo (deque ∷ deques) row → StartsTo deque row
starts_to deque deques [] all = absurd all
starts_to deque deques (l ∷ ls) all = all.0

to_others : (deque : RowsId × Global) (deques : List (RowsId × Global)) (row : List Lane) → AllZip IsLaneTo (deque ∷ deques) row → AllZip IsLaneTo deques (others row)
to_others deque deques [] all = absurd all
to_others deque deques (l ∷ ls) all = all.1

-- the first lane of each row, and the others
firsts_and_others : (h : Family → ℕ) (rows : List (List Lane)) → sum_by h (stolen_with rows) ≡ sum_by h (flat_map first_taken rows) + sum_by h (stolen_with (map others rows))
firsts_and_others h [] = refl
firsts_and_others h ([] ∷ rows) = firsts_and_others h rows
firsts_and_others h ((l ∷ ls) ∷ rows) = omega (
  arith,
  sum_by-append h (taken_by l ++ flat_map taken_by ls) (stolen_with rows),
  sum_by-append h (taken_by l) (flat_map taken_by ls),
  sum_by-append h (taken_by l) (flat_map first_taken rows),
  sum_by-append h (flat_map taken_by ls) (stolen_with (map others rows)),
  firsts_and_others h rows,
)

no_lanes : (h : Family → ℕ) (rows : List (List Lane)) → All (AllZip IsLaneTo []) rows → sum_by h (stolen_with rows) ≡ 0
no_lanes h [] all = refl
no_lanes h ([] ∷ rows) all = no_lanes h rows (All-tail (AllZip IsLaneTo []) [] rows all)
no_lanes h ((l ∷ ls) ∷ rows) all = absurd (All-head (AllZip IsLaneTo []) (l ∷ ls) rows all)

module _ (count over at_most : ℕ) (all : List Owner) (lanes : List (List Lane)) where
  pub waits : (o : Owner) (os : List Owner) (rows : List (List Lane)) (left : List Family) → Drained count over at_most all (o ∷ os) lanes rows left → IsWaiting count over at_most o
  waits o os rows left d = All-head (IsWaiting count over at_most) o os d.waiting

  pub all_start : (o : Owner) (os : List Owner) (rows : List (List Lane)) (left : List Family) → Drained count over at_most all (o ∷ os) lanes rows left → All (StartsTo (worker_deque o)) rows
  all_start o os rows left d = All-weaker (AllZip IsLaneTo (map worker_deque (o ∷ os))) (StartsTo (worker_deque o)) (λ row. starts_to (worker_deque o) (map worker_deque os) row) rows d.to_each

  pub drained_as : (os os' : List Owner) (rows rows' : List (List Lane)) (left left' : List Family) → os ≡ os' → rows ≡ rows' → left ≡ left' → Drained count over at_most all os lanes rows left → Drained count over at_most all os' lanes rows' left'
  drained_as os os' rows rows' left left' a b c d = subst (λ (p : List Owner × List (List Lane) × List Family). Drained count over at_most all p.0 lanes p.1 p.2) (λ i. (a i, b i, c i)) d

  -- one more deque is drained
  pub drained_more : (o p : Owner) (os : List Owner) (rows : List (List Lane)) (left left' : List Family) → Drained count over at_most all (o ∷ os) lanes rows left → JoinsFirsts o rows p → Drains (worker_view p) left left'
      → Drained count over at_most all os lanes (map others rows) left'
  drained_more o p os rows left left' d j e =
      let waiting = waits o os rows left d in
      let pushed : (worker_view p).pushed ≡ (worker_view o).pushed = ap (λ v. v.pushed) j.view in
      let taken : (worker_view p).taken ≡ (worker_view o).taken ++ flat_map first_taken rows = ap (λ v. v.taken) j.view in
      record {
        waiting = All-tail (IsWaiting count over at_most) o os d.waiting;
        to_each = All-map (AllZip IsLaneTo (map worker_deque os)) others rows (All-weaker (AllZip IsLaneTo (map worker_deque (o ∷ os))) (λ row. AllZip IsLaneTo (map worker_deque os) (others row)) (λ row. to_others (worker_deque o) (map worker_deque os) row) rows d.to_each);
        number = length-map rows others ∙ d.number;
        balance = λ h.
            let before = d.balance h in
            let found = e.balance h in
            let a = ap (sum_by h) pushed in
            let b = ap (sum_by h) taken in
            let c = ap (sum_by h) e.added in
            omega (
              arith,
              sum_by-append h (worker_view o).pushed (pushed_by os),
              sum_by-append h (worker_view o).taken (popped_by os),
              sum_by-append h (worker_view o).taken (flat_map first_taken rows),
              sum_by-append h (worker_view p).taken e.rest,
              sum_by-append h left e.rest,
              firsts_and_others h rows,
            );
        fits = subst (All (Fits over at_most)) (sym e.added) (All-append (Fits over at_most) left e.rest d.fits
            (subst (λ (n : ℕ × ℕ). All (Fits n.0 n.1) e.rest) (λ i. ((ap (λ v. v.probes) j.view ∙ waiting.probes) i, (ap (λ v. v.order) j.view ∙ waiting.order) i)) e.fits));
      }

  -- all deques are drained
  pub drained_all : (rows : List (List Lane)) (left : List Family) → Drained count over at_most all [] lanes rows left → AsOften (pushed_by all) ((popped_by all ++ stolen_with lanes) ++ left)
  drained_all rows left d h =
      let is = d.balance h in
      omega (arith, no_lanes h rows d.to_each, sum_by-append h (popped_by all ++ stolen_with lanes) left, sum_by-append h (popped_by all) (stolen_with lanes))

-- ---- the reaches

drop_at : {X : Type 0} (xs : List X) (n : ℕ) (x : X) → slice_get xs n ≡ Some x → drop n xs ≡ x ∷ drop (n + 1) xs
drop_at [] n x e = absurd (cc e)
drop_at (y ∷ ys) zero x e = let is : y ≡ x = cc in ap (λ z. z ∷ ys) is
drop_at (y ∷ ys) (suc n) x e = rw add-one (drop_at ys n x e ∙ ap (λ k. x ∷ drop k ys) (add-one n))

-- from a place on, the deques are those of the reaches from there on
deques_from : (deques : List (RowsId × Global)) (place : ℕ) (reaches : List Reach) → map (λ r. r.number) reaches ≡ range_with_len place (length reaches) → place + length reaches ≡ length deques
    → All (λ r. slice_get deques r.number ≡ Some (worker_deque r.owner)) reaches → map (λ r. worker_deque r.owner) reaches ≡ drop place deques
deques_from deques place [] numbers count own = sym (drop_all place deques (omega arith))
deques_from deques place (r ∷ rs) numbers count own =
    let first : r.number ≡ place = cc in
    let rest : map (λ x. x.number) rs ≡ range_with_len (place + 1) (length rs) = cc in
    let here = All-head (λ x. slice_get deques x.number ≡ Some (worker_deque x.owner)) r rs own in
    let more = deques_from deques (place + 1) rs rest (omega arith) (All-tail (λ x. slice_get deques x.number ≡ Some (worker_deque x.owner)) r rs own) in
    ap (λ ds. worker_deque r.owner ∷ ds) more ∙ sym (drop_at deques place (worker_deque r.owner) (ap (slice_get deques) (sym first) ∙ here))

module _ (d : Deques) (reaches : List Reach) (are : AreReachesOf d reaches) where
  abbrev pub owners : List Owner
  owners = map (λ r. r.owner) reaches

  abbrev pub rows : List (List Lane)
  rows = map (λ r. r.lanes.items) reaches

  reaches_count : length reaches ≡ length (deques_of d)
  reaches_count = sym (length-map reaches (λ r. r.number)) ∙ ap length are.all ∙ length-range_with_len 0 (length (deques_of d))

  owners_deques : map worker_deque owners ≡ deques_of d
  owners_deques =
      let each = All-weaker (IsReachOf d) (λ r. slice_get (deques_of d) r.number ≡ Some (worker_deque r.owner)) (λ r is. is.own) reaches are.each in
      sym (map-composed worker_deque (λ (r : Reach). r.owner) reaches) ∙ deques_from (deques_of d) 0 reaches (are.all ∙ ap (range_with_len 0) (sym reaches_count)) (omega (arith, reaches_count)) each

  -- before any deque is drained
  pub none_drained : Drained (length (deques_of d)) (probes_of d) (order_of d) owners owners rows rows []
  none_drained = record {
    waiting = All-map (IsWaiting (length (deques_of d)) (probes_of d) (order_of d)) (λ (r : Reach). r.owner) reaches
        (All-weaker (IsReachOf d) (λ r. IsWaiting (length (deques_of d)) (probes_of d) (order_of d) r.owner) (λ r is. record { fifo = r.fifo; begun = r.begun; some = r.part; parts = is.parts; probes = is.probes; order = is.order }) reaches are.each);
    to_each = subst (λ ds. All (AllZip IsLaneTo ds) rows) (sym owners_deques)
        (All-map (AllZip IsLaneTo (deques_of d)) (λ (r : Reach). r.lanes.items) reaches (All-weaker (IsReachOf d) (λ r. AllZip IsLaneTo (deques_of d) r.lanes.items) (λ r is. is.lanes) reaches are.each));
    number = length-map reaches (λ r. r.lanes.items) ∙ reaches_count;
    balance = λ h. omega arith;
    fits = All-nil (Fits (probes_of d) (order_of d));
  }

-- what the reaches took, by their owners and their lanes
pub taken_weighs : (h : Family → ℕ) (reaches : List Reach) → sum_by h (all_taken_by reaches) ≡ sum_by h (popped_by (map (λ r. r.owner) reaches)) + sum_by h (stolen_with (map (λ r. r.lanes.items) reaches))
taken_weighs h [] = refl
taken_weighs h (r ∷ rs) = omega (
  arith,
  sum_by-append h ((worker_view r.owner).taken ++ flat_map (λ fs. fs) (map taken_by r.lanes.items)) (all_taken_by rs),
  sum_by-append h (worker_view r.owner).taken (flat_map (λ fs. fs) (map taken_by r.lanes.items)),
  ap (sum_by h) (flat_map-map (λ (fs : List Family). fs) taken_by r.lanes.items),
  sum_by-append h (worker_view r.owner).taken (popped_by (map (λ x. x.owner) rs)),
  sum_by-append h (flat_map taken_by r.lanes.items) (stolen_with (map (λ x. x.lanes.items) rs)),
  taken_weighs h rs,
)

pub all_balance : (reaches : List Reach) (left : List Family) → AsOften (pushed_by (map (λ r. r.owner) reaches)) ((popped_by (map (λ r. r.owner) reaches) ++ stolen_with (map (λ r. r.lanes.items) reaches)) ++ left)
    → AsOften (all_pushed_by reaches) (all_taken_by reaches ++ left)
all_balance reaches left is h =
    let same = is h in
    omega (
      arith,
      ap (sum_by h) (flat_map-map (λ (o : Owner). (worker_view o).pushed) (λ (r : Reach). r.owner) reaches),
      taken_weighs h reaches,
      sum_by-append h (popped_by (map (λ r. r.owner) reaches) ++ stolen_with (map (λ r. r.lanes.items) reaches)) left,
      sum_by-append h (popped_by (map (λ r. r.owner) reaches)) (stolen_with (map (λ r. r.lanes.items) reaches)),
      sum_by-append h (all_taken_by reaches) left,
    )
