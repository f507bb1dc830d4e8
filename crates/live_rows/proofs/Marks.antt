-- Marks after a write of one of them, and the lists that follow them.
use Rattle.std.proofs.Common.{◌≡◌, ℕ, zero, suc, ◌<◌, ◌≤◌, Bool, true, false, not, ◌&&◌, ◌||◌, ◌==◌, List, [], ◌∷◌, ◌++◌, length, set, refl, sym, ap, ◌∙◌, subst, arith, ⊎_elim}
use Rattle.std.proofs.lemmas.Bool.{cases_eq, cases_lt, or_cases, or_right, eqb-true, eq-eqb, ne_eqb, both_ways, false_from_ne_true, true_from_ne_false}
use Rattle.std.proofs.lemmas.List.{get_or-set_same, get_or-set_other, get_or_past}
use Rattle.expr_table.specs.Table.{has}
use Rattle.live_rows.specs.declared.mark.Mark.{Mark}
use Rattle.once_random.specs.Numbers.{count_below}
use Rattle.once_random.proofs.Facts.{count_mono}
use Rattle.live_rows.specs.Marks.{mark_at, empty_mark, queued_count}
use Rattle.live_rows.specs.State.{IsFound, IsQueue}
use Rattle.live_rows.proofs.Numbers.{has_push, distinct_push, length_is_count, room_left}

pub mark_at-same : (marks : List Mark) (i : ℕ) (m : Mark) → i < length marks → mark_at (set marks i m) i ≡ m
mark_at-same marks i m l = get_or-set_same marks i m empty_mark l

pub mark_at-other : (marks : List Mark) (i : ℕ) (m : Mark) (r : ℕ) → (i ≡ r → ⊥) → mark_at (set marks i m) r ≡ mark_at marks r
mark_at-other marks i m r other = get_or-set_other marks i r m empty_mark (λ e. other (sym e))

pub mark_at-past : (marks : List Mark) (r : ℕ) → length marks ≤ r → mark_at marks r ≡ empty_mark
mark_at-past marks r l = get_or_past marks r empty_mark l

-- What holds of the mark written at its row, and of each other mark at its row, holds of each mark after the write.
pub each_mark : (P : ℕ → Mark → Type 0) (marks : List Mark) (i : ℕ) (m : Mark) → i < length marks → P i m → ((r : ℕ) → (i ≡ r → ⊥) → P r (mark_at marks r)) → (r : ℕ) → P r (mark_at (set marks i m) r)
each_mark P marks i m l here there r =
    ⊎_elim (λ same. subst (λ q. P q (mark_at (set marks i m) q)) same (subst (P i) (sym (mark_at-same marks i m l)) here))
    (λ other. subst (P r) (sym (mark_at-other marks i m r other)) (there r other))
    (cases_eq i r)

-- a mark that says something is of a row
pub row_within : (marks : List Mark) (r : ℕ) (test : Mark → Bool) → test empty_mark ≡ false → test (mark_at marks r) ≡ true → r < length marks
row_within marks r test none h =
    ⊎_elim (λ l. l) (λ past. absurd (both_ways (test empty_mark) none (subst (λ m. test m ≡ true) (mark_at-past marks r past) h))) (cases_lt r (length marks))

-- the rows found are rows
pub found_within : (marks : List Mark) (found : List ℕ) → IsFound marks found → (r : ℕ) → has found r ≡ true → r < length marks
found_within marks found is r h = row_within marks r (λ m. m.touched) refl (sym (is.each r) ∙ h)

-- a row that may be put among those found leaves room for it
pub found_room : (marks : List Mark) (found : List ℕ) → IsFound marks found → (r : ℕ) → r < length marks → (mark_at marks r).touched ≡ false → length found < length marks
found_room marks found is r l fresh = room_left (length marks) found r is.distinct (found_within marks found is) l (is.each r ∙ fresh)

-- a write that touches a row that is found already
pub found_kept : (marks : List Mark) (found : List ℕ) (i : ℕ) (m : Mark) → IsFound marks found → i < length marks → (mark_at marks i).touched ≡ true → m.touched ≡ true → IsFound (set marks i m) found
found_kept marks found i m is l was now = record {
  distinct = is.distinct;
  each = each_mark (λ r k. has found r ≡ k.touched) marks i m l (is.each i ∙ was ∙ sym now) (λ r _. is.each r);
  empty = each_mark (λ r k. k.touched ≡ false → k ≡ empty_mark) marks i m l (λ h. absurd (both_ways m.touched h now)) (λ r _. is.empty r);
}

-- a write that touches a row that was not found, and is now
pub found_more : (marks : List Mark) (found : List ℕ) (i : ℕ) (m : Mark) → IsFound marks found → i < length marks → (mark_at marks i).touched ≡ false → m.touched ≡ true → IsFound (set marks i m) (found ++ i ∷ [])
found_more marks found i m is l was now = record {
  distinct = distinct_push found i is.distinct (is.each i ∙ was);
  each = each_mark (λ r k. has (found ++ i ∷ []) r ≡ k.touched) marks i m l
      (has_push found i i ∙ or_right (has found i) (i == i) (eq-eqb i i refl) ∙ sym now)
      (λ r other. has_push found i r ∙ ap (λ b. has found r || b) (ne_eqb i r other) ∙ or_none (has found r) ∙ is.each r);
  empty = each_mark (λ r k. k.touched ≡ false → k ≡ empty_mark) marks i m l (λ h. absurd (both_ways m.touched h now)) (λ r _. is.empty r);
}
  where
    or_none : (b : Bool) → (b || false) ≡ b
    or_none true = refl
    or_none false = refl

-- the rows that may serve a cut are rows
pub queue_within : (marks : List Mark) (alone : List ℕ) → IsQueue marks alone → (r : ℕ) → has alone r ≡ true → r < length marks
queue_within marks alone is r h = row_within marks r (λ m. m.queued) refl (is.queued r h)

pub not_queued : (marks : List Mark) (alone : List ℕ) → IsQueue marks alone → (r : ℕ) → (mark_at marks r).queued ≡ false → has alone r ≡ false
not_queued marks alone is r h = false_from_ne_true (has alone r) (λ t. both_ways _ h (is.queued r t))

pub queue_room : (marks : List Mark) (alone : List ℕ) → IsQueue marks alone → (r : ℕ) → r < length marks → (mark_at marks r).queued ≡ false → length alone < length marks
queue_room marks alone is r l h = room_left (length marks) alone r is.distinct (queue_within marks alone is) l (not_queued marks alone is r h)

-- a row that may serve a cut is queued
pub queue_more : (marks : List Mark) (alone : List ℕ) (i : ℕ) (m : Mark) → IsQueue marks alone → i < length marks → (mark_at marks i).queued ≡ false → m.queued ≡ true → (m.fresh && not m.root) ≡ true → m.parents ≤ 1
    → IsQueue (set marks i m) (alone ++ i ∷ [])
queue_more marks alone i m is l was now spare one = record {
  distinct = distinct_push alone i is.distinct (not_queued marks alone is i was);
  queued = each_mark (λ r k. has (alone ++ i ∷ []) r ≡ true → k.queued ≡ true) marks i m l (λ _. now)
      (λ r other h. ⊎_elim (is.queued r) (λ e. absurd (other (eqb-true i r e))) (or_cases (has alone r) (i == r) (sym (has_push alone i r) ∙ h)));
  spare = each_mark (λ r k. k.queued ≡ true → (k.fresh && not k.root) ≡ true) marks i m l (λ _. spare) (λ r _. is.spare r);
  one = each_mark (λ r k. k.queued ≡ true → k.parents ≤ 1) marks i m l (λ _. one) (λ r _. is.one r);
}

-- A write that keeps what is queued; what it says of a queued row still allows that.
pub queue_kept : (marks : List Mark) (alone : List ℕ) (i : ℕ) (m : Mark) → IsQueue marks alone → i < length marks → m.queued ≡ (mark_at marks i).queued
    → (m.queued ≡ true → (m.fresh && not m.root) ≡ true) → (m.queued ≡ true → m.parents ≤ 1) → IsQueue (set marks i m) alone
queue_kept marks alone i m is l same spare one = record {
  distinct = is.distinct;
  queued = each_mark (λ r k. has alone r ≡ true → k.queued ≡ true) marks i m l (λ h. same ∙ is.queued i h) (λ r _. is.queued r);
  spare = each_mark (λ r k. k.queued ≡ true → (k.fresh && not k.root) ≡ true) marks i m l spare (λ r _. is.spare r);
  one = each_mark (λ r k. k.queued ≡ true → k.parents ≤ 1) marks i m l one (λ r _. is.one r);
}

-- the second of two writes at one place stays
pub set_twice : (marks : List Mark) (i : ℕ) (a b : Mark) → set (set marks i a) i b ≡ set marks i b
set_twice [] i a b = refl
set_twice (m ∷ ms) zero a b = refl
set_twice (m ∷ ms) (suc i) a b = ap (λ l. m ∷ l) (set_twice ms i a b)

-- A row is touched, and then its mark is changed again.
pub touched_then : (f : Mark → Mark) (marks new : List Mark) (i : ℕ) → i < length marks → new ≡ set marks i (record (mark_at marks i) { touched = true })
    → set new i (f (mark_at new i)) ≡ set marks i (f (record (mark_at marks i) { touched = true }))
touched_then f marks new i l is =
    let t : Mark = record (mark_at marks i) { touched = true } in
    ap (λ ms. set ms i (f (mark_at ms i))) is
    ∙ ap (λ m. set (set marks i t) i (f m)) (mark_at-same marks i t l)
    ∙ set_twice marks i t (f t)

-- no more rows are queued than are found
pub queued_few : (marks : List Mark) (found : List ℕ) → IsFound marks found → queued_count marks ≤ length found
queued_few marks found is =
    let count : length found ≡ count_below (length marks) (has found) = length_is_count (length marks) found is.distinct (found_within marks found is) in
    let fewer : queued_count marks ≤ count_below (length marks) (has found) =
    count_mono (length marks) (has found) (λ r. (mark_at marks r).queued) (λ r q.
    is.each r ∙ true_from_ne_false (mark_at marks r).touched (λ u. both_ways (mark_at marks r).queued (ap (λ (m : Mark). m.queued) (is.empty r u)) q)) in
    omega arith
