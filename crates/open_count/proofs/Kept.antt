-- Each step on a word keeps the rule of the words.
use Rattle.std.proofs.Common.{◌≡◌, ℕ, ◌+◌, ◌-◌, ◌%◌, ◌^◌, ◌<◌, ◌≤◌, bit_or, ◌⊎◌, Bool, true, false, List, [], ◌∷◌, ◌++◌, All, Contains, get_or, set, length, min, sym, refl, ap, ◌∙◌, subst, inl, inr, ⊎_elim, arith, append-nil}
use Rattle.std.specs.List.{list_any}
use Rattle.std.proofs.Math.Bool.{or-false}
use Rattle.std.proofs.lemmas.List.Concat.{flat_map-append}
use Rattle.std.proofs.lemmas.List.Folds.{list_any-append}
use Rattle.std.proofs.lemmas.List.Sums.{sum_by-append}
use Rattle.std.proofs.lemmas.List.Elements.{All-push, All-weaker, All-contains, Contains-append_left, Contains-push_cases}
use mathlib.Core.Option.{none, some}
use lib.ListN.{get_elem?, length-set, length-append}
use Rattle.atomic_table.specs.Table.{Me, step, keeps, Allows, Splits as SplitsSeat}
use Rattle.open_count.specs.declared.rule.Setup.{Setup}
use Rattle.open_count.specs.declared.view.CountView.{CountView}
use Rattle.open_count.specs.Views.{newcomer, no_rank, stop_entry, after_another, after_split, after_close, after_open_now, after_fail, after_best, after_stop, after_stopped}
use Rattle.open_count.specs.Rule.{all_splits, all_closes, all_children, all_spare, all_failed, loaded_bests, loaded_stops, least_word, ObeysRule, IsKept}
use Rattle.open_count.specs.Steps.{IsNextBest, IsNextStop, Splits, Closes, LoadsOpen, Fails, LoadsBest, Stops, LoadsStop}
use Rattle.open_count.proofs.Changed.{sum_by-changed, list_any-same, list_any-here, list_any-changed, flat_map-same, All-changed, All-of, Contains-of, Contains-changed, Contains-cases, least-below, least-is, least-changed}

is_bit : (b : Bool) → (stop_entry b ≡ 0) ⊎ (stop_entry b ≡ 1)
is_bit true = inr refl
is_bit false = inl refl

set_bit : (b : Bool) → bit_or (stop_entry b) 1 ≡ 1
set_bit true = refl
set_bit false = refl

-- a newcomer changes nothing but how many seats there are
newcomer_keeps : (roots before after o b s : ℕ) (views : List CountView) → after ≡ before + 1 → ObeysRule roots before o b s views → ObeysRule roots after o b s (views ++ newcomer ∷ [])
newcomer_keeps roots before after o b s views more rule =
    let failed : all_failed (views ++ newcomer ∷ []) ≡ all_failed views = flat_map-append (λ x. x.failed) views (newcomer ∷ []) ∙ append-nil (all_failed views) in
    let loaded : loaded_bests (views ++ newcomer ∷ []) ≡ loaded_bests views = flat_map-append (λ x. x.bests_seen) views (newcomer ∷ []) ∙ append-nil (loaded_bests views) in
    let stops : loaded_stops (views ++ newcomer ∷ []) ≡ loaded_stops views = flat_map-append (λ x. x.stops_seen) views (newcomer ∷ []) ∙ append-nil (loaded_stops views) in
    let x = sum_by-append (λ x. x.splits) views (newcomer ∷ []) in
    let y = sum_by-append (λ x. x.closes) views (newcomer ∷ []) in
    let z = sum_by-append (λ x. x.children) views (newcomer ∷ []) in
    let p = sum_by-append (λ x. x.spare) views (newcomer ∷ []) in
    let made = rule.seats in
    let is = rule.counted in
    record {
      seats = omega (arith, length-append views (newcomer ∷ []));
      counted = omega arith;
      ranks = rw failed rule.ranks;
      best = rw failed rule.best;
      loaded = rw (failed, loaded) rule.loaded;
      lowered = rw loaded rule.lowered;
      stop = rule.stop ∙ ap stop_entry (sym (list_any-append (λ x. x.stopped) views (newcomer ∷ []) ∙ or-false (list_any (λ x. x.stopped) views)));
      seen = rw stops rule.seen;
    }

module _ (roots workers o b s : ℕ) (views : List CountView) (rule : ObeysRule roots workers o b s views) (id : ℕ) (v : CountView) (at : get_elem? views id ≡ some v) where
  -- the views with that of the seat changed
  abbrev pub with : CountView → List CountView
  with w = set views id w

  abbrev Counted : ℕ → List CountView → Type 0
  Counted word l = (word + (all_splits l + all_closes l)) % 2 ^ 64 ≡ (roots + all_children l) % 2 ^ 64

  counted : (w : CountView) → w.splits ≡ v.splits → w.closes ≡ v.closes → w.children ≡ v.children → Counted o (with w)
  counted w sp cl ch =
      let x = sum_by-changed (λ x. x.splits) views id v w at in
      let y = sum_by-changed (λ x. x.closes) views id v w at in
      let z = sum_by-changed (λ x. x.children) views id v w at in
      let is = rule.counted in
      omega arith

  seats : (w : CountView) → w.spare ≡ v.spare → length (with w) + all_spare (with w) ≡ workers
  seats w same =
      let x = sum_by-changed (λ x. x.spare) views id v w at in
      let is = rule.seats in
      omega (arith, length-set views id w)

  -- a step on the open word
  open_keeps : (after word : ℕ) (w : CountView) → length (with w) + all_spare (with w) ≡ after → w.failed ≡ v.failed → w.bests_seen ≡ v.bests_seen → w.stopped ≡ v.stopped → w.stops_seen ≡ v.stops_seen → Counted word (with w) → ObeysRule roots after word b s (with w)
  open_keeps after word w made f l t g is =
      let failed = flat_map-same (λ x. x.failed) views id v w at f in
      let loaded = flat_map-same (λ x. x.bests_seen) views id v w at l in
      let stops = flat_map-same (λ x. x.stops_seen) views id v w at g in
      let stopped = list_any-same (λ x. x.stopped) views id v w at t in
      record {
        seats = made;
        counted = is;
        ranks = rw failed rule.ranks;
        best = rw failed rule.best;
        loaded = rw (failed, loaded) rule.loaded;
        lowered = rw loaded rule.lowered;
        stop = rw stopped rule.stop;
        seen = rw stops rule.seen;
      }

  pub split_keeps : (k : ℕ) → ObeysRule roots workers ((o + k) % 2 ^ 64) b s (with (after_split v (k + 1)))
  split_keeps k =
      let w : CountView = after_split v (k + 1) in
      let x = sum_by-changed (λ x. x.splits) views id v w at in
      let y = sum_by-changed (λ x. x.closes) views id v w at in
      let z = sum_by-changed (λ x. x.children) views id v w at in
      let is = rule.counted in
      open_keeps workers _ w (seats w refl) refl refl refl refl (omega arith)

  pub close_keeps : ObeysRule roots workers ((o + (2 ^ 64 - 1)) % 2 ^ 64) b s (with (after_close v))
  close_keeps =
      let w : CountView = after_close v in
      let x = sum_by-changed (λ x. x.splits) views id v w at in
      let y = sum_by-changed (λ x. x.closes) views id v w at in
      let z = sum_by-changed (λ x. x.children) views id v w at in
      let is = rule.counted in
      open_keeps workers _ w (seats w refl) refl refl refl refl (omega arith)

  pub open_now_keeps : ObeysRule roots workers o b s (with (after_open_now v o))
  open_now_keeps = let w : CountView = after_open_now v o in open_keeps workers o w (seats w refl) refl refl refl refl (counted w refl refl refl)

  pub another_keeps : 0 < v.spare → ObeysRule roots workers o b s (with (after_another v) ++ newcomer ∷ [])
  another_keeps room =
      let w : CountView = after_another v in
      let x = sum_by-changed (λ x. x.spare) views id v w at in
      let made = rule.seats in
      newcomer_keeps roots (workers - 1) workers o b s (with w) (omega arith) (open_keeps (workers - 1) o w (omega (arith, length-set views id w)) refl refl refl refl (counted w refl refl refl))

  pub fail_keeps : (rank : ℕ) → rank < 2 ^ 62 → ObeysRule roots workers o (min b rank) s (with (after_fail v rank))
  fail_keeps rank small =
      let w : CountView = after_fail v rank in
      let loaded = flat_map-same (λ x. x.bests_seen) views id v w at refl in
      let stops = flat_map-same (λ x. x.stops_seen) views id v w at refl in
      let stopped = list_any-same (λ x. x.stopped) views id v w at refl in
      let best = least-changed (λ x. x.failed) views id rank v w at refl small in
      let mine : All (λ r. r < 2 ^ 62) v.failed = All-of (λ x. x.failed) (λ r. r < 2 ^ 62) views id v at rule.ranks in
      record {
        seats = seats w refl;
        counted = counted w refl refl refl;
        ranks = All-changed (λ x. x.failed) (λ r. r < 2 ^ 62) views id w rule.ranks (All-push (λ r. r < 2 ^ 62) v.failed rank mine small);
        best = ap (λ n. min n rank) rule.best ∙ sym best;
        loaded = rw loaded (All-weaker (λ n. (n ≡ no_rank) ⊎ Contains (all_failed views) n) (λ n. (n ≡ no_rank) ⊎ Contains (all_failed (with w)) n)
            (λ n. ⊎_elim inl (λ h. inr (Contains-changed (λ x. x.failed) n views id v w at (Contains-append_left v.failed (rank ∷ []) n) h))) (loaded_bests views) rule.loaded);
        lowered = rw loaded (All-weaker (λ n. b ≤ n) (λ n. min b rank ≤ n) (λ n h. omega arith) (loaded_bests views) rule.lowered);
        stop = rw stopped rule.stop;
        seen = rw stops rule.seen;
      }

  pub best_keeps : ObeysRule roots workers o b s (with (after_best v b))
  best_keeps =
      let w : CountView = after_best v b in
      let failed = flat_map-same (λ x. x.failed) views id v w at refl in
      let stops = flat_map-same (λ x. x.stops_seen) views id v w at refl in
      let stopped = list_any-same (λ x. x.stopped) views id v w at refl in
      let P : ℕ → Type 0 = λ n. (n ≡ no_rank) ⊎ Contains (all_failed views) n in
      let Q : ℕ → Type 0 = λ n. b ≤ n in
      let here : P b = ⊎_elim (λ e. inl (rule.best ∙ e)) (λ h. inr (subst (Contains (all_failed views)) (sym rule.best) h)) (least-is (all_failed views)) in
      record {
        seats = seats w refl;
        counted = counted w refl refl refl;
        ranks = rw failed rule.ranks;
        best = rw failed rule.best;
        loaded = rw failed (All-changed (λ x. x.bests_seen) P views id w rule.loaded (All-push P v.bests_seen b (All-of (λ x. x.bests_seen) P views id v at rule.loaded) here));
        lowered = All-changed (λ x. x.bests_seen) Q views id w rule.lowered (All-push Q v.bests_seen b (All-of (λ x. x.bests_seen) Q views id v at rule.lowered) (omega arith));
        stop = rw stopped rule.stop;
        seen = rw stops rule.seen;
      }

  pub best_is_next : IsNextBest v b
  best_is_next = record {
    rank = ⊎_elim (λ e. inl (rule.best ∙ e)) (λ h. inr (rw rule.best (All-contains (λ r. r < 2 ^ 62) (all_failed views) (least_word (all_failed views)) rule.ranks h))) (least-is (all_failed views));
    failed = rw rule.best (All-of (λ x. x.failed) (λ r. least_word (all_failed views) ≤ r) views id v at (least-below (all_failed views)));
    loaded = All-of (λ x. x.bests_seen) (λ n. b ≤ n) views id v at rule.lowered;
  }

  -- a step on the stop word
  stop_keeps : (word : ℕ) (w : CountView) → w.spare ≡ v.spare → w.splits ≡ v.splits → w.closes ≡ v.closes → w.children ≡ v.children → w.failed ≡ v.failed → w.bests_seen ≡ v.bests_seen
      → word ≡ stop_entry (list_any (λ x. x.stopped) (with w)) → (Contains (loaded_stops (with w)) 1 → word ≡ 1) → ObeysRule roots workers o b word (with w)
  stop_keeps word w p sp cl ch f l is seen =
      let failed = flat_map-same (λ x. x.failed) views id v w at f in
      let loaded = flat_map-same (λ x. x.bests_seen) views id v w at l in
      record {
        seats = seats w p;
        counted = counted w sp cl ch;
        ranks = rw failed rule.ranks;
        best = rw failed rule.best;
        loaded = rw (failed, loaded) rule.loaded;
        lowered = rw loaded rule.lowered;
        stop = is;
        seen = seen;
      }

  pub set_keeps : ObeysRule roots workers o b (bit_or s 1) (with (after_stop v))
  set_keeps =
      let w : CountView = after_stop v in
      let one : bit_or s 1 ≡ 1 = ap (λ n. bit_or n 1) rule.stop ∙ set_bit (list_any (λ x. x.stopped) views) in
      stop_keeps _ w refl refl refl refl refl refl (one ∙ ap stop_entry (sym (list_any-changed (λ x. x.stopped) views id v w at refl))) (λ h. one)

  pub stopped_keeps : ObeysRule roots workers o b s (with (after_stopped v s))
  stopped_keeps =
      let w : CountView = after_stopped v s in
      stop_keeps s w refl refl refl refl refl refl (rw (list_any-same (λ x. x.stopped) views id v w at refl) rule.stop)
      (λ has. ⊎_elim rule.seen (λ h. ⊎_elim (λ before. rule.seen (Contains-of (λ x. x.stops_seen) 1 views id v at before)) (λ is. is) (Contains-push_cases v.stops_seen s 1 h))
      (Contains-cases (λ x. x.stops_seen) 1 views id w has))

  pub stop_is_next : IsNextStop v s
  stop_is_next = record {
    bit = ⊎_elim (λ e. inl (rule.stop ∙ e)) (λ e. inr (rule.stop ∙ e)) (is_bit (list_any (λ x. x.stopped) views));
    stopped = λ set. rule.stop ∙ ap stop_entry (list_any-here (λ x. x.stopped) views id v at set);
    loaded = λ has. rule.seen (Contains-of (λ x. x.stops_seen) 1 views id v at has);
  }

pub new_seat : (setup : Setup) (id : ℕ) (v : CountView) → 0 < v.spare → SplitsSeat (IsKept setup) id v (after_another v) newcomer
new_seat setup id v room state (o, b, s, words, rule) at = (o, b, s, words, another_keeps setup.roots setup.workers o b s state.views rule id v at room)

abbrev Seated : Type 0
Seated = Me (Unit {0}) CountView

-- a step on one word, at a table that keeps the rule
module _ (setup : Setup) (slots id : ℕ) (me : Seated) where
  at_open : (f : ℕ → ℕ) (then : ℕ → Seated → Type 0)
      → ((o b s : ℕ) (views : List CountView) → ObeysRule setup.roots setup.workers o b s views → get_elem? views id ≡ some me.0 → (w : CountView) × ObeysRule setup.roots setup.workers (f o) b s (set views id w) × then o (w, me.1))
      → Allows (IsKept setup) slots id me 0 f then
  at_open f then goes state (o, b, s, words, rule) len at small =
      let next = goes o b s state.views rule at in (
        next.0,
        keeps,
        tt,
        (f o, b, s, ap (λ ws. set ws 0 (f (get_or ws 0 0))) words, next.1),
        subst (λ (n : ℕ). then n (next.0, me.1)) (sym (ap (λ ws. get_or ws 0 0) words)) next.2,
      )

  at_best : (f : ℕ → ℕ) (then : ℕ → Seated → Type 0)
      → ((o b s : ℕ) (views : List CountView) → ObeysRule setup.roots setup.workers o b s views → get_elem? views id ≡ some me.0 → (w : CountView) × ObeysRule setup.roots setup.workers o (f b) s (set views id w) × then b (w, me.1))
      → Allows (IsKept setup) slots id me 1 f then
  at_best f then goes state (o, b, s, words, rule) len at small =
      let next = goes o b s state.views rule at in (
        next.0,
        keeps,
        tt,
        (o, f b, s, ap (λ ws. set ws 1 (f (get_or ws 1 0))) words, next.1),
        subst (λ (n : ℕ). then n (next.0, me.1)) (sym (ap (λ ws. get_or ws 1 0) words)) next.2,
      )

  at_stop : (f : ℕ → ℕ) (then : ℕ → Seated → Type 0)
      → ((o b s : ℕ) (views : List CountView) → ObeysRule setup.roots setup.workers o b s views → get_elem? views id ≡ some me.0 → (w : CountView) × ObeysRule setup.roots setup.workers o b (f s) (set views id w) × then s (w, me.1))
      → Allows (IsKept setup) slots id me 2 f then
  at_stop f then goes state (o, b, s, words, rule) len at small =
      let next = goes o b s state.views rule at in (
        next.0,
        keeps,
        tt,
        (o, b, f s, ap (λ ws. set ws 2 (f (get_or ws 2 0))) words, next.1),
        subst (λ (n : ℕ). then n (next.0, me.1)) (sym (ap (λ ws. get_or ws 2 0) words)) next.2,
      )

  pub splits : (k : ℕ) → Allows (IsKept setup) slots id me 0 (λ n. (n + k) % 2 ^ 64) (Splits (step slots 0 k 0 none) me)
  splits k = at_open (λ n. (n + k) % 2 ^ 64) (Splits (step slots 0 k 0 none) me) (λ o b s views rule at. (after_split me.0 (k + 1), split_keeps setup.roots setup.workers o b s views rule id me.0 at k, refl))

  pub closes : Allows (IsKept setup) slots id me 0 (λ n. (n + (2 ^ 64 - 1)) % 2 ^ 64) (Closes (step slots 0 1 0 none) me)
  closes = at_open (λ n. (n + (2 ^ 64 - 1)) % 2 ^ 64) (Closes (step slots 0 1 0 none) me) (λ o b s views rule at. (after_close me.0, close_keeps setup.roots setup.workers o b s views rule id me.0 at, refl))

  pub loads_open : Allows (IsKept setup) slots id me 0 (λ n. n) (LoadsOpen (step slots 0 0 0 none) me)
  loads_open = at_open (λ n. n) (LoadsOpen (step slots 0 0 0 none) me) (λ o b s views rule at. (after_open_now me.0 o, open_now_keeps setup.roots setup.workers o b s views rule id me.0 at, refl))

  pub fails : (rank : ℕ) → rank < 2 ^ 62 → Allows (IsKept setup) slots id me 1 (λ n. min n rank) (Fails (step slots 1 rank 0 none) me)
  fails rank small = at_best (λ n. min n rank) (Fails (step slots 1 rank 0 none) me) (λ o b s views rule at. (after_fail me.0 rank, fail_keeps setup.roots setup.workers o b s views rule id me.0 at rank small, refl))

  pub loads_best : Allows (IsKept setup) slots id me 1 (λ n. n) (LoadsBest (step slots 1 0 0 none) me)
  loads_best = at_best (λ n. n) (LoadsBest (step slots 1 0 0 none) me) (λ o b s views rule at. (after_best me.0 b, best_keeps setup.roots setup.workers o b s views rule id me.0 at, (refl, best_is_next setup.roots setup.workers o b s views rule id me.0 at)))

  pub stops : Allows (IsKept setup) slots id me 2 (λ n. bit_or n 1) (Stops (step slots 2 1 0 none) me)
  stops = at_stop (λ n. bit_or n 1) (Stops (step slots 2 1 0 none) me) (λ o b s views rule at. (after_stop me.0, set_keeps setup.roots setup.workers o b s views rule id me.0 at, refl))

  pub loads_stop : Allows (IsKept setup) slots id me 2 (λ n. n) (LoadsStop (step slots 2 0 0 none) me)
  loads_stop = at_stop (λ n. n) (LoadsStop (step slots 2 0 0 none) me) (λ o b s views rule at. (after_stopped me.0 s, stopped_keeps setup.roots setup.workers o b s views rule id me.0 at, (refl, stop_is_next setup.roots setup.workers o b s views rule id me.0 at)))
