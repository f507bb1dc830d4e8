-- Marks of which nothing is known, and rows that were taken out of a list.
use Rattle.std.proofs.Common.{◌≡◌, ℕ, ◌+◌, ◌<◌, ◌^◌, ◌==◌, true, false, ◌||◌, List, [], ◌∷◌, ◌++◌, length, get_or, set, take, slice_index_or, refl, sym, ap, ◌∙◌, subst, arith, ⊎_elim}
use Rattle.std.proofs.lemmas.Bool.{cases_Bool, or_cases, or_parts, eqb-true, eqb-false, both_ways, false≢true}
use Rattle.std.proofs.lemmas.List.{take_more}
use Rattle.expr_table.specs.Table.{has}
use Rattle.once_random.proofs.Facts.{has-append_left, has-append_right, has_first}
use Rattle.live_rows.specs.declared.mark.Mark.{Mark}
use Rattle.live_rows.specs.Lists.{Held, none_held, are_distinct}
use Rattle.live_rows.specs.Marks.{mark_at, empty_mark, is_spare}
use Rattle.live_rows.specs.State.{IsFound, IsQueue, IsState, IsRested}
use Rattle.live_rows.proofs.Marks.{mark_at-same, mark_at-other, queue_within}
use Rattle.live_rows.proofs.Numbers.{distinct_pop, has_push}

-- nothing is known of any row
pub kept_empty : (marks : List Mark) (found alone : List ℕ) → length marks < 2 ^ 32 → ((r : ℕ) → mark_at marks r ≡ empty_mark) → found ≡ [] → alone ≡ []
    → IsState (record { marks = marks; found = found; alone = alone })
kept_empty marks found alone few none no_found no_alone = record {
  few = few;
  found = subst (IsFound marks) (sym no_found) (record {
    distinct = refl;
    each = λ r. sym (ap (λ (m : Mark). m.touched) (none r));
    empty = λ r _. none r;
  });
  queue = subst (IsQueue marks) (sym no_alone) (record {
    distinct = refl;
    queued = λ r h. absurd (false≢true h);
    spare = λ r h. absurd (unqueued r h);
    one = λ r h. absurd (unqueued r h);
  });
}
  where
    unqueued : (r : ℕ) → (mark_at marks r).queued ≡ true → ⊥
    unqueued r h = both_ways (mark_at marks r).queued (ap (λ (m : Mark). m.queued) (none r)) h

-- a new struct
pub made : (marks : List Mark) (found alone lost counted : Held) (leaves : List ℕ) (rows : ℕ) → length marks ≡ rows → rows < 2 ^ 32 → ((r : ℕ) → mark_at marks r ≡ empty_mark)
    → found ≡ none_held rows → alone ≡ none_held rows → lost ≡ none_held rows → counted ≡ none_held rows → length leaves ≡ rows → ((g : ℕ) → slice_index_or leaves g 0 ≡ 0)
    → IsState (record { marks = marks; found = found.numbers; alone = alone.numbers }) × IsRested (length marks) found alone lost counted leaves
made marks found alone lost counted leaves rows len few none is_found is_alone is_lost is_counted leaves_len zeros = (
  kept_empty marks found.numbers alone.numbers (omega arith) none (ap (λ (h : Held). h.numbers) is_found) (ap (λ (h : Held). h.numbers) is_alone),
  record {
    found_room = ap (λ (h : Held). h.room) is_found ∙ sym len;
    alone_room = ap (λ (h : Held). h.room) is_alone ∙ sym len;
    no_lost = is_lost ∙ ap none_held (sym len);
    no_counted = is_counted ∙ ap none_held (sym len);
    leaves_len = leaves_len ∙ sym len;
    no_leaves = zeros;
  },
)

-- the lists that are empty between calls stay so
pub rested_kept : (rows : ℕ) (found alone lost counted : Held) (leaves : List ℕ) → IsRested rows found alone lost counted leaves
    → (next : ℕ) (later rest : Held) → next ≡ rows → later.room ≡ found.room → rest.room ≡ alone.room → IsRested next later rest lost counted leaves
rested_kept rows found alone lost counted leaves is next later rest same found_room alone_room = record {
  found_room = found_room ∙ is.found_room ∙ sym same;
  alone_room = alone_room ∙ is.alone_room ∙ sym same;
  no_lost = is.no_lost ∙ ap none_held (sym same);
  no_counted = is.no_counted ∙ ap none_held (sym same);
  leaves_len = is.leaves_len ∙ sym same;
  no_leaves = is.no_leaves;
}

module _ (found : List ℕ) (k : ℕ) (marks start : List Mark) (lt : k < length found) (within : get_or found k 0 < length marks)
    (done : (r : ℕ) → has (take k found) r ≡ true → mark_at marks r ≡ empty_mark)
    (same : (r : ℕ) → has (take k found) r ≡ false → mark_at marks r ≡ mark_at start r) where
  abbrev row : ℕ
  row = get_or found k 0

  after : (r : ℕ) → has (take (k + 1) found) r ≡ (has (take k found) r || (row == r))
  after r = ap (λ xs. has xs r) (take_more found k 0 lt) ∙ has_push (take k found) row r

  here : (r : ℕ) → row ≡ r → mark_at (set marks row empty_mark) r ≡ empty_mark
  here r is = subst (λ q. mark_at (set marks row empty_mark) q ≡ empty_mark) is (mark_at-same marks row empty_mark within)

  -- the marks of one more row are empty
  pub one_more_empty : (r : ℕ) → has (take (k + 1) found) r ≡ true → mark_at (set marks row empty_mark) r ≡ empty_mark
  one_more_empty r h =
      ⊎_elim
      (λ same. here r (eqb-true row r same))
      (λ other. mark_at-other marks row empty_mark r (eqb-false row r other)
      ∙ done r (⊎_elim (λ t. t) (λ e. absurd (both_ways (row == r) other e)) (or_cases (has (take k found) r) (row == r) (sym (after r) ∙ h))))
      (cases_Bool (row == r))

  pub others_stay : (r : ℕ) → has (take (k + 1) found) r ≡ false → mark_at (set marks row empty_mark) r ≡ mark_at start r
  others_stay r h =
      let parts = or_parts (has (take k found) r) (row == r) (sym (after r) ∙ h) in
      mark_at-other marks row empty_mark r (eqb-false row r parts.1) ∙ same r parts.0

-- once the marks of the rows found are empty, all are
pub all_empty : (found : List ℕ) (k : ℕ) (marks start : List Mark) → take k found ≡ found → IsFound start found
    → ((r : ℕ) → has (take k found) r ≡ true → mark_at marks r ≡ empty_mark) → ((r : ℕ) → has (take k found) r ≡ false → mark_at marks r ≡ mark_at start r)
    → (r : ℕ) → mark_at marks r ≡ empty_mark
all_empty found k marks start all listed done same r =
    ⊎_elim (done r) (λ f. same r f ∙ listed.empty r (sym (listed.each r) ∙ ap (λ xs. has xs r) (sym all) ∙ f)) (cases_Bool (has (take k found) r))

-- a row was taken out of those that may serve a cut
pub queue_taken : (marks : List Mark) (alone rest : List ℕ) (x : ℕ) → IsQueue marks alone → alone ≡ rest ++ x ∷ [] → IsQueue marks rest
queue_taken marks alone rest x is taken = record {
  distinct = (distinct_pop rest x (subst (λ xs. are_distinct xs ≡ true) taken is.distinct)).0;
  queued = λ r h. is.queued r (ap (λ xs. has xs r) taken ∙ has-append_left rest (x ∷ []) r h);
  spare = is.spare;
  one = is.one;
}

pub queue_same : (marks : List Mark) (alone rest : List ℕ) → IsQueue marks alone → alone ≡ [] → rest ≡ [] → IsQueue marks rest
queue_same marks alone rest is none left = subst (IsQueue marks) (none ∙ sym left) is

-- it is a row, and spare
pub taken_spare : (marks : List Mark) (alone rest : List ℕ) (x : ℕ) → IsQueue marks alone → alone ≡ rest ++ x ∷ [] → (x < length marks) × (is_spare (mark_at marks x) ≡ true)
taken_spare marks alone rest x is taken =
    let h : has alone x ≡ true = ap (λ xs. has xs x) taken ∙ has-append_right rest (x ∷ []) x (has_first x []) in
    (queue_within marks alone is x h, is.spare x (is.queued x h))
