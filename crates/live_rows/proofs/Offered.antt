-- Rows found are offered one after another.
use Rattle.std.proofs.Common.{◌≡◌, ℕ, ◌+◌, ◌<◌, ◌==◌, Bool, true, false, ◌&&◌, ◌||◌, if◌then◌else◌, List, [], ◌∷◌, ◌++◌, length, get_or, set, take, refl, sym, ap, ◌∙◌, subst, arith, ⊎_elim}
use Rattle.std.proofs.lemmas.Bool.{cases_Bool, cases_eq, cond-true, cond-false, and_left, or_right, eq-eqb, ne_eqb}
use Rattle.std.proofs.lemmas.List.{take_more}
use Rattle.expr_table.specs.Table.{has}
use Rattle.live_rows.specs.declared.mark.Mark.{Mark}
use Rattle.live_rows.specs.Lists.{Held}
use Rattle.live_rows.specs.Marks.{mark_at, is_lone}
use Rattle.live_rows.specs.Spread.{offered, is_offered}
use Rattle.live_rows.specs.State.{IsFound}
use Rattle.live_rows.proofs.Marks.{each_mark, found_within}
use Rattle.live_rows.proofs.Numbers.{has_push, has_at, not_in_front, or-false}

module _ (start marks : List Mark) (found : List ℕ) (k : ℕ) (listed : IsFound start found) (lt : k < length found)
    (before : (r : ℕ) → mark_at marks r ≡ offered (is_offered start (take k found) r) (mark_at start r)) where
  abbrev row : ℕ
  row = get_or found k 0

  -- it is a row
  pub offer_within : length marks ≡ length start → row < length marks
  offer_within len = let l : row < length start = found_within start found listed row (has_at found k 0 lt) in omega arith

  after : (r : ℕ) → has (take (k + 1) found) r ≡ (has (take k found) r || (row == r))
  after r = ap (λ xs. has xs r) (take_more found k 0 lt) ∙ has_push (take k found) row r

  new : is_offered start (take k found) row ≡ false
  new = and_left (has (take k found) row) (is_lone (mark_at start row)) (not_in_front found k 0 listed.distinct lt)

  as_start : mark_at marks row ≡ mark_at start row
  as_start = before row ∙ ap (λ b. offered b (mark_at start row)) new

  other_after : (r : ℕ) → (row ≡ r → ⊥) → is_offered start (take (k + 1) found) r ≡ is_offered start (take k found) r
  other_after r other = ap (λ b. b && is_lone (mark_at start r)) (after r ∙ ap (λ b. has (take k found) r || b) (ne_eqb row r other) ∙ or-false _)

  row_after : (b : Bool) → is_lone (mark_at marks row) ≡ b → is_offered start (take (k + 1) found) row ≡ b
  row_after b h =
      ap (λ c. c && is_lone (mark_at start row)) (after row ∙ or_right (has (take k found) row) (row == row) (eq-eqb row row refl))
      ∙ ap is_lone (sym as_start) ∙ h

  -- the marks once the row was offered
  pub marks_after : length marks ≡ length start → (news : List Mark) → news ≡ (if is_lone (mark_at marks row) then set marks row (record (mark_at marks row) { queued = true }) else marks)
      → (r : ℕ) → mark_at news r ≡ offered (is_offered start (take (k + 1) found) r) (mark_at start r)
  marks_after len news is r =
      ⊎_elim
      (λ t. ap (λ ms. mark_at ms r) (is ∙ cond-true (is_lone (mark_at marks row)) _ _ t)
      ∙ each_mark (λ q m. m ≡ offered (is_offered start (take (k + 1) found) q) (mark_at start q)) marks row (record (mark_at marks row) { queued = true }) (offer_within len)
      (ap (λ (m : Mark). record m { queued = true }) as_start ∙ ap (λ b. offered b (mark_at start row)) (sym (row_after true t)))
      (λ q other. before q ∙ ap (λ b. offered b (mark_at start q)) (sym (other_after q other))) r)
      (λ f. ap (λ ms. mark_at ms r) (is ∙ cond-false (is_lone (mark_at marks row)) _ _ f)
      ∙ before r
      ∙ ap (λ b. offered b (mark_at start r)) (sym (⊎_elim
      (λ same. subst (λ q. is_offered start (take (k + 1) found) q ≡ is_offered start (take k found) q) same (row_after false f ∙ sym new))
      (other_after r)
      (cases_eq row r))))
      (cases_Bool (is_lone (mark_at marks row)))

  -- the rows that may serve a cut once the row was offered
  pub alone_after : (alone news : Held) → ((r : ℕ) → has alone.numbers r ≡ is_offered start (take k found) r)
      → news ≡ (if is_lone (mark_at marks row) then record alone { numbers = alone.numbers ++ row ∷ [] } else alone)
      → (r : ℕ) → has news.numbers r ≡ is_offered start (take (k + 1) found) r
  alone_after alone news was is r =
      ⊎_elim
      (λ t. ap (λ (h : Held). has h.numbers r) (is ∙ cond-true (is_lone (mark_at marks row)) _ _ t)
      ∙ has_push alone.numbers row r
      ∙ ⊎_elim
      (λ same. or_right (has alone.numbers r) (row == r) (eq-eqb row r same) ∙ sym (subst (λ q. is_offered start (take (k + 1) found) q ≡ true) same (row_after true t)))
      (λ other. ap (λ b. has alone.numbers r || b) (ne_eqb row r other) ∙ or-false _ ∙ was r ∙ sym (other_after r other))
      (cases_eq row r))
      (λ f. ap (λ (h : Held). has h.numbers r) (is ∙ cond-false (is_lone (mark_at marks row)) _ _ f)
      ∙ was r
      ∙ ⊎_elim
      (λ same. subst (λ q. is_offered start (take k found) q ≡ is_offered start (take (k + 1) found) q) same (new ∙ sym (row_after false f)))
      (λ other. sym (other_after r other))
      (cases_eq row r))
      (cases_Bool (is_lone (mark_at marks row)))

  -- the room stays
  pub room_after : (alone news : Held) → news ≡ (if is_lone (mark_at marks row) then record alone { numbers = alone.numbers ++ row ∷ [] } else alone) → news.room ≡ alone.room
  room_after alone news is =
      ⊎_elim
      (λ t. ap (λ (h : Held). h.room) (is ∙ cond-true (is_lone (mark_at marks row)) _ _ t))
      (λ f. ap (λ (h : Held). h.room) (is ∙ cond-false (is_lone (mark_at marks row)) _ _ f))
      (cases_Bool (is_lone (mark_at marks row)))
