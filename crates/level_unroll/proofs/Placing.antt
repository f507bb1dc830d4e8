-- A cell that was late is placed among those that wait.
use Rattle.std.proofs.Common.{◌≡◌, ◌<◌, ◌≤◌, ◌⊎◌, ℕ, ◌+◌, ◌-◌, Bool, true, false, not, ◌&&◌, ◌||◌, ◌==◌, nat_le, List, [], ◌∷◌, ◌++◌, length, reverse, replicate, set, get_or, refl, sym, ap, ◌∙◌, subst, arith, inl, inr, ⊎_elim, length-set, get_or-set_same, get_or-set_other}
use Rattle.std.specs.List.{list_any}
use Rattle.std.proofs.lemmas.Bool.{and_cases, and_left, and_right, not-false, both_ways, cases_eq, cases_lt, eqb-true, eq-eqb, ne_eqb, leb-false, lt-leb, or_cases, or_left, or_right}
use Rattle.std.proofs.lemmas.List.{reverse-append, length-reverse, length_push, length-replicate, get_or-replicate, get_or_past}
use Rattle.std.specs.Ordering.{nat_cmp}
use Rattle.std.specs.BTreeSet as set_of
use Rattle.circuit_types.specs.declared.nets.NetCell.{NetCell}
use Rattle.circuit_types.specs.declared.nets.Nets.{Nets}
use Rattle.circuit_types.specs.declared.nets.Source.{Source}
use Rattle.circuit_types.specs.DataSources.{cell_at}
use Rattle.circuit_types.specs.Order.{has, may_be_next}
use Rattle.level_unroll.specs.declared.queue.Queue.{Queue}
use Rattle.level_unroll.specs.declared.queue.Wait.{Wait}
use Rattle.level_unroll.specs.Queue.{cells_from, AreLinked, HasWaits, reads_cell, is_listed, stands_ready, waiting_from, waits_for, IsQueue, AreWoken}
use Rattle.level_unroll.proofs.Links.{from_latest, from_none, wait_at, more_linked, more_waits}

-- no cell stands ready or waits at first

none_of : (test : ℕ → Bool) (keys : List ℕ) → keys ≡ [] → list_any test keys ≡ false
none_of test keys e = ap (list_any test) e

all_zero : (n c : ℕ) → ◌≡◌ {A = ℕ} (get_or (replicate n 0) c 0) 0
all_zero n c =
    let size = length-replicate {A = ℕ} n 0 in
    ⊎_elim (λ lt. get_or-replicate n c 0 0 lt) (λ ge. get_or_past (replicate n 0) c 0 (omega (arith, size))) (cases_lt c n)

pub start_queue : (reads : NetCell → List Source) (nets : Nets) (q : Queue) (n : ℕ) → n ≡ length nets.cells → q.listed.items ≡ replicate n false → q.ready.keys ≡ []
    → q.latest.items ≡ replicate n 0 → q.waits.items ≡ [] → IsQueue reads nets (λ k. nat_le 0 k) q
start_queue reads nets q n size listed ready latest waits =
    let number : (c : ℕ) → get_or q.latest.items c 0 ≡ 0 = λ c. ap (λ ns. get_or ns c 0) latest ∙ all_zero n c in
    let unready : (k : ℕ) → stands_ready q k ≡ false = λ k. none_of _ q.ready.keys ready in
    let idle : (k c : ℕ) → waits_for q k c ≡ false
    = λ k c. ap (λ i. has (waiting_from q i) k) (number c) ∙ ap (λ ks. has ks k) (from_none (reverse q.waits.items)) in
    record {
      one_flag_each = ap length listed ∙ (length-replicate n false ∙ size);
      one_number_each = ap length latest ∙ (length-replicate {A = ℕ} n 0 ∙ size);
      numbered = λ c. let zero_here = number c in omega (arith, zero_here);
      linked = subst (λ (ws : List Wait). AreLinked (reverse ws)) (sym waits) tt;
      each_ready = λ k h. absurd (both_ways (stands_ready q k) (unready k) h);
      each_waiting = λ c k o h. absurd (both_ways (waits_for q k c) (idle k c) h);
      each_placed = λ k lt u l r. absurd (not_below k (leb-false 0 k l));
    }
  where
    not_below : (k : ℕ) → k < 0 → ⊥
    not_below k below = omega arith

-- a number that is not late once one number has been placed, was not late or is that number
not_late : (late : ℕ → Bool) (k i : ℕ) → (late i && not (i == k)) ≡ false → (late i ≡ false) ⊎ (i ≡ k)
not_late late k i h = ⊎_elim (λ a. inl a) (λ b. inr (eqb-true i k (not-false (i == k) b))) (and_cases (late i) (not (i == k)) h)

-- the cell k is put off until c
module _ (reads : NetCell → List Source) (nets : Nets) (late : ℕ → Bool) (q r : Queue) (c : ℕ) (w : Wait) (old : IsQueue reads nets late q) (lt : c < length q.latest.items)
    (earlier : w.earlier ≡ get_or q.latest.items c 0) (latest : r.latest.items ≡ set q.latest.items c (length q.waits.items + 1)) (waits : r.waits.items ≡ q.waits.items ++ w ∷ []) where
  number_here : get_or r.latest.items c 0 ≡ length q.waits.items + 1
  number_here = ap (λ ns. get_or ns c 0) latest ∙ get_or-set_same q.latest.items c (length q.waits.items + 1) 0 lt

  number_other : (d : ℕ) → (d ≡ c → ⊥) → get_or r.latest.items d 0 ≡ get_or q.latest.items d 0
  number_other d other = ap (λ ns. get_or ns d 0) latest ∙ get_or-set_other q.latest.items c d (length q.waits.items + 1) 0 other

  waits_here : (i : ℕ) → waits_for r i c ≡ ((w.cell == i) || waits_for q i c)
  waits_here i =
      let back : reverse r.waits.items ≡ w ∷ reverse q.waits.items = ap reverse waits ∙ reverse-append q.waits.items (w ∷ []) in
      let size : length (reverse q.waits.items) ≡ length q.waits.items = length-reverse q.waits.items in
      let here : get_or r.latest.items c 0 ≡ length (reverse q.waits.items) + 1 = number_here ∙ ap (λ n. n + 1) (sym size) in
      let cells : waiting_from r (get_or r.latest.items c 0) ≡ w.cell ∷ waiting_from q w.earlier
      = ap (λ (ws : List Wait). cells_from ws (get_or r.latest.items c 0)) back ∙ from_latest w (reverse q.waits.items) (get_or r.latest.items c 0) here in
      ap (λ ks. has ks i) cells ∙ ap (λ n. (w.cell == i) || has (waiting_from q n) i) earlier

  waits_other : (i d : ℕ) → (d ≡ c → ⊥) → waits_for r i d ≡ waits_for q i d
  waits_other i d other =
      ap (λ n. has (waiting_from r n) i) (number_other d other) ∙ ap (λ ks. has ks i) (more_waits q r w waits (get_or q.latest.items d 0) (old.numbered d)).1

  waits_still : (i d : ℕ) → waits_for q i d ≡ true → waits_for r i d ≡ true
  waits_still i d h =
      ⊎_elim
      (λ e. let here = subst (λ n. waits_for q i n ≡ true) e h in
      subst (λ n. waits_for r i n ≡ true) (sym e) (waits_here i ∙ or_right (w.cell == i) (waits_for q i c) here))
      (λ other. waits_other i d other ∙ h)
      (cases_eq d c)

  waits_now : waits_for r w.cell c ≡ true
  waits_now = waits_here w.cell ∙ or_left (w.cell == w.cell) (waits_for q w.cell c) (eq-eqb w.cell w.cell refl)

  waits_cases : (i d : ℕ) → waits_for r i d ≡ true → (waits_for q i d ≡ true) ⊎ ((i ≡ w.cell) × (d ≡ c))
  waits_cases i d h =
      ⊎_elim
      (λ e. let here = subst (λ n. waits_for r i n ≡ true) e h in
      ⊎_elim
      (λ same. inr (sym (eqb-true w.cell i same), e))
      (λ before. inl (subst (λ n. waits_for q i n ≡ true) (sym e) before))
      (or_cases (w.cell == i) (waits_for q i c) (sym (waits_here i) ∙ here)))
      (λ other. inl (sym (waits_other i d other) ∙ h))
      (cases_eq d c)

  numbered_more : (d : ℕ) → get_or r.latest.items d 0 ≤ length r.waits.items
  numbered_more d =
      let more : length r.waits.items ≡ length q.waits.items + 1 = ap length waits ∙ length_push q.waits.items w in
      ⊎_elim
      (λ e. let here : get_or r.latest.items d 0 ≡ length q.waits.items + 1 = ap (λ n. get_or r.latest.items n 0) e ∙ number_here in omega arith)
      (λ other. let same = number_other d other in let before = old.numbered d in omega (arith, same, before))
      (cases_eq d c)

  pub placed_waiting : r.listed ≡ q.listed → r.ready ≡ q.ready → w.cell < length nets.cells → is_listed q w.cell ≡ false → is_listed q c ≡ false
      → reads_cell (reads (cell_at nets w.cell)) c ≡ true → IsQueue reads nets (λ i. late i && not (i == w.cell)) r
  placed_waiting listed ready within unlisted free reads_c =
      let flag : (i : ℕ) → is_listed r i ≡ is_listed q i = λ i. ap (λ l. get_or l.items i false) listed in
      let stand : (i : ℕ) → stands_ready r i ≡ stands_ready q i = λ i. ap (λ s. set_of.contains nat_cmp s i) ready in
      record {
        one_flag_each = ap (λ l. length l.items) listed ∙ old.one_flag_each;
        one_number_each = ap length latest ∙ (length-set q.latest.items c (length q.waits.items + 1) ∙ old.one_number_each);
        numbered = numbered_more;
        linked = subst (λ (ws : List Wait). AreLinked (reverse ws)) (sym waits)
            (more_linked q.waits.items w old.linked (let le = old.numbered c in omega (arith, le, earlier)));
        each_ready = λ i h. let before = old.each_ready i (sym (stand i) ∙ h) in
            (before.0, subst (λ l. may_be_next reads nets (λ j. get_or l.items j false) i ≡ true) (sym listed) before.1);
        each_waiting = λ d i o h.
            ⊎_elim
            (λ before. let p = old.each_waiting d i (sym (flag d) ∙ o) before in (p.0, flag i ∙ p.1, p.2))
            (λ new. (
              subst (λ n. n < length nets.cells) (sym new.0) within,
              flag i ∙ subst (λ n. is_listed q n ≡ false) (sym new.0) unlisted,
              subst (λ n. reads_cell (reads (cell_at nets i)) n ≡ true) (sym new.1) (subst (λ n. reads_cell (reads (cell_at nets n)) c ≡ true) (sym new.0) reads_c),
            ))
            (waits_cases i d h);
        each_placed = λ i l u not_l not_r.
            ⊎_elim
            (λ before. let p = old.each_placed i l (sym (flag i) ∙ u) before (sym (stand i) ∙ not_r) in (p.0, flag p.0 ∙ p.1, waits_still i p.0 p.2))
            (λ same. (c, flag c ∙ free, subst (λ n. waits_for r n c ≡ true) (sym same) waits_now))
            (not_late late w.cell i not_l);
      }

-- fewer cells are late
pub late_less : (reads : NetCell → List Source) (nets : Nets) (late fewer : ℕ → Bool) (q : Queue) → ((k : ℕ) → k < length nets.cells → fewer k ≡ false → late k ≡ false) → IsQueue reads nets late q → IsQueue reads nets fewer q
late_less reads nets late fewer q less old = record {
  one_flag_each = old.one_flag_each;
  one_number_each = old.one_number_each;
  numbered = old.numbered;
  linked = old.linked;
  each_ready = old.each_ready;
  each_waiting = old.each_waiting;
  each_placed = λ k lt u l r. old.each_placed k lt u (less k lt l) r;
}

pub late_above : (reads : NetCell → List Source) (nets : Nets) (q : Queue) (i next : ℕ) → next ≡ i + 1
    → IsQueue reads nets (λ k. nat_le i k && not (k == i)) q → IsQueue reads nets (λ k. nat_le next k) q
late_above reads nets q i next is old =
    late_less reads nets (λ k. nat_le i k && not (k == i)) (λ k. nat_le next k) q
    (λ k within h. let below : k < next = leb-false next k h in
    ⊎_elim
    (λ e. and_right (nat_le i k) (not (k == i)) (ap not (eq-eqb k i e)))
    (λ other. and_left (nat_le i k) (not (k == i)) (lt-leb i k (omega arith)))
    (cases_eq k i)) old

pub late_none : (reads : NetCell → List Source) (nets : Nets) (q : Queue) (i : ℕ) → length nets.cells ≤ i → IsQueue reads nets (λ k. nat_le i k) q → IsQueue reads nets (λ k. false) q
late_none reads nets q i all old = late_less reads nets (λ k. nat_le i k) (λ k. false) q (λ k within h. lt-leb i k (omega arith)) old

-- waits are over, and their cells are placed one by one
module _ (reads : NetCell → List Source) (nets : Nets) (q : Queue) (number : ℕ) (woken : AreWoken reads nets q number) where
  -- none is left
  pub none_woken : number ≡ 0 → IsQueue reads nets (λ k. false) q
  none_woken is =
      late_less reads nets (has (waiting_from q number)) (λ k. false) q
      (λ k lt h. ap (λ n. has (waiting_from q n) k) is ∙ ap (λ ks. has ks k) (from_none (reverse q.waits.items))) woken.queue

  module _ (w : Wait) (some : 0 < number) (is : w ≡ get_or q.waits.items (number - 1) w) where
    first : (w.earlier < number) × (waiting_from q number ≡ w.cell ∷ waiting_from q w.earlier)
    first = wait_at q.waits.items number w woken.queue.linked some woken.numbered is

    has_first : has (waiting_from q number) w.cell ≡ true
    has_first = ap (λ ks. has ks w.cell) first.1 ∙ or_left (w.cell == w.cell) (has (waiting_from q w.earlier) w.cell) (eq-eqb w.cell w.cell refl)

    has_rest : (k : ℕ) → has (waiting_from q w.earlier) k ≡ true → has (waiting_from q number) k ≡ true
    has_rest k h = ap (λ ks. has ks k) first.1 ∙ or_right (w.cell == k) (has (waiting_from q w.earlier) k) h

    has_other : (k : ℕ) → (k ≡ w.cell → ⊥) → has (waiting_from q w.earlier) k ≡ false → has (waiting_from q number) k ≡ false
    has_other k other h =
        ap (λ ks. has ks k) first.1 ∙ (ap (λ b. b || has (waiting_from q w.earlier) k) (ne_eqb w.cell k (λ e. other (sym e))) ∙ h)

    pub woken_before : w.earlier < number
    woken_before = first.0

    pub woken_within : w.cell < length nets.cells
    woken_within = (woken.each w.cell has_first).0

    pub woken_unlisted : is_listed q w.cell ≡ false
    woken_unlisted = (woken.each w.cell has_first).1

    -- the first of them has been placed
    pub woken_next : (r : Queue) → r.listed ≡ q.listed → HasWaits q r
        → ((late : ℕ → Bool) → IsQueue reads nets late q → IsQueue reads nets (λ k. late k && not (k == w.cell)) r) → AreWoken reads nets r w.earlier
    woken_next r listed keeps placed =
        let kept = keeps w.earlier (let a = first.0 in let b = woken.numbered in omega (arith, a, b)) in
        record {
          numbered = kept.0;
          each = λ k h. let p = woken.each k (has_rest k (ap (λ ks. has ks k) (sym kept.1) ∙ h)) in (p.0, ap (λ l. get_or l.items k false) listed ∙ p.1);
          queue = late_less reads nets (λ k. has (waiting_from q number) k && not (k == w.cell)) (has (waiting_from r w.earlier)) r
              (λ k lt h.
              ⊎_elim
              (λ e. and_right (has (waiting_from q number) k) (not (k == w.cell)) (ap not (eq-eqb k w.cell e)))
              (λ other. and_left (has (waiting_from q number) k) (not (k == w.cell)) (has_other k other (ap (λ ks. has ks k) (sym kept.1) ∙ h)))
              (cases_eq k w.cell))
              (placed (has (waiting_from q number)) woken.queue);
        }
