-- A row that is cut: its sides were freed where it is live, then it was marked and offered.
use Rattle.std.proofs.Common.{◌≡◌, ◌⊎◌, ℕ, ◌+◌, ◌<◌, Bool, true, false, not, ◌&&◌, ◌||◌, ◌==◌, if◌then◌else◌, List, [], ◌∷◌, ◌++◌, length, set, refl, sym, ap, ◌∙◌, subst, arith, inl, inr, ⊎_elim, length-set}
use Rattle.std.proofs.lemmas.Bool.{cases_Bool, cond-true, cond-false, and_parts, and_from, and_cases, or_left, or_right, eq-eqb, ne_eqb, not-true, both_ways}
use Rattle.std.proofs.lemmas.List.{length-append, set-set}
use Rattle.expr_table.specs.Table.{has}
use Rattle.live_rows.specs.declared.mark.Mark.{Mark}
use Rattle.live_rows.specs.Lists.{Held}
use Rattle.live_rows.specs.Losing.{as_cut, CountsAs, Cuts, IsLosing, KeepsHeld, Loses, is_serving}
use Rattle.live_rows.specs.Marks.{mark_at, is_lone, is_spare, queued_count}
use Rattle.live_rows.specs.Spread.{offered}
use Rattle.live_rows.specs.State.{IsQueue}
use Rattle.live_rows.proofs.Dropping.{one_if, flag_count, offered-field, offered_is}
use Rattle.live_rows.proofs.Marks.{mark_at-same, each_mark}
use Rattle.live_rows.proofs.Numbers.{has_push}
use Rattle.once_random.specs.Numbers.{count_below}
use Rattle.once_random.proofs.Facts.{count_below-same}

-- what a write keeps of its mark, it keeps of each mark
pub field_kept : {A : Type 0} (field : Mark → A) (marks new : List Mark) (i : ℕ) (m : Mark) → i < length marks → new ≡ set marks i m → field m ≡ field (mark_at marks i) → (r : ℕ) → field (mark_at new r) ≡ field (mark_at marks r)
field_kept field marks new i m l is here r =
    ap (λ ms. field (mark_at ms r)) is ∙ each_mark (λ q k. field k ≡ field (mark_at marks q)) marks i m l here (λ q _. refl) r

-- as many rows have a flag where it is the same for each
pub flags_kept : (flag : Mark → Bool) (marks new : List Mark) → length new ≡ length marks → ((r : ℕ) → flag (mark_at new r) ≡ flag (mark_at marks r))
    → count_below (length new) (λ r. flag (mark_at new r)) ≡ count_below (length marks) (λ r. flag (mark_at marks r))
flags_kept flag marks new len same =
    ap (λ n. count_below n (λ r. flag (mark_at new r))) len ∙ count_below-same (length marks) (λ r. flag (mark_at new r)) (λ r. flag (mark_at marks r)) (λ r _. same r)

module _ (row : ℕ) (one two three four : List Mark) (alone lost alone2 lost2 alone4 : Held) (within : row < length one) (loses : Loses one alone.numbers two alone2.numbers)
    (losing : IsLosing two alone2 lost2) (held : KeepsHeld one lost.numbers two lost2.numbers) (cut : three ≡ set two row (as_cut (mark_at two row)))
    (offered_marks : four ≡ (if is_lone (mark_at three row) then set three row (record (mark_at three row) { queued = true }) else three))
    (offered_alone : alone4 ≡ (if is_lone (mark_at three row) then record alone2 { numbers = alone2.numbers ++ row ∷ [] } else alone2)) (queue : IsQueue four alone4.numbers) where
  abbrev was : Mark
  was = mark_at two row

  abbrev now : Mark
  now = as_cut (mark_at two row)

  abbrev done : Mark
  done = offered (is_lone now) now

  within_two : row < length two
  within_two = subst (λ n. row < n) (sym loses.rows) within

  here : mark_at three row ≡ now
  here = ap (λ ms. mark_at ms row) cut ∙ mark_at-same two row now within_two

  four_is : four ≡ set two row done
  four_is =
      offered_is three row now four (subst (λ ms. row < length ms) (sym cut) (subst (λ n. row < n) (sym (length-set two row now)) within_two)) here offered_marks
      ∙ ap (λ ms. set ms row done) cut ∙ set-set two row now done

  alone_is : alone4 ≡ (if is_lone now then record alone2 { numbers = alone2.numbers ++ row ∷ [] } else alone2)
  alone_is = offered_alone ∙ ap (λ (m : Mark). if is_lone m then record alone2 { numbers = alone2.numbers ++ row ∷ [] } else alone2) here

  len : length four ≡ length two
  len = ap length four_is ∙ length-set two row done

  -- what is neither said by a cut nor by an offer stays
  kept : {A : Type 0} (field : Mark → A) → ((m : Mark) → field (record m { queued = true }) ≡ field m) → ((m : Mark) → field (as_cut m) ≡ field m) → (r : ℕ) → field (mark_at four r) ≡ field (mark_at two r)
  kept field offer marked = field_kept field two four row done within_two four_is (offered-field field offer (is_lone now) now ∙ marked was)

  each : (P : ℕ → Mark → Type 0) → P row done → ((r : ℕ) → (row ≡ r → ⊥) → P r (mark_at two r)) → (r : ℕ) → P r (mark_at four r)
  each P at others r = subst (λ ms. P r (mark_at ms r)) (sym four_is) (each_mark P two row done within_two at others r)

  pub left_counts : (r : ℕ) → CountsAs (mark_at four r) (mark_at two r)
  left_counts r = record {
    parents = kept (λ (m : Mark). m.parents) (λ m. refl) (λ m. refl) r;
    mixed = kept (λ (m : Mark). m.mixed) (λ m. refl) (λ m. refl) r;
    live = kept (λ (m : Mark). m.live) (λ m. refl) (λ m. refl) r;
    root = kept (λ (m : Mark). m.root) (λ m. refl) (λ m. refl) r;
  }

  pub left_losing : IsLosing four alone4 lost2
  left_losing = record {
    queue = queue;
    alone_room = ap (λ (h : Held). h.room) alone_is ∙ room_if (is_lone now) ∙ losing.alone_room ∙ sym len;
    lost_room = losing.lost_room ∙ sym len;
    distinct = losing.distinct;
    within = λ r h. subst (λ n. r < n) (sym len) (losing.within r h);
    gone = λ r h. kept (λ (m : Mark). m.live) (λ m. refl) (λ m. refl) r ∙ losing.gone r h;
  }
    where
      room_if : (b : Bool) → (if b then record alone2 { numbers = alone2.numbers ++ row ∷ [] } else alone2).room ≡ alone2.room
      room_if true = refl
      room_if false = refl

  pub left_held : KeepsHeld one lost.numbers four lost2.numbers
  left_held = record {
    each = λ r. ap (λ b. b || has lost2.numbers r) (kept (λ (m : Mark). m.live) (λ m. refl) (λ m. refl) r) ∙ held.each r;
    count = ap (λ n. n + length lost2.numbers) (flags_kept (λ m. m.live) two four len (kept (λ (m : Mark). m.live) (λ m. refl) (λ m. refl))) ∙ held.count;
  }

  -- the row was offered, or it was not lone
  offered_or_not : ((is_lone now ≡ true) × (alone4.numbers ≡ alone2.numbers ++ row ∷ [])) ⊎ ((is_lone now ≡ false) × (alone4.numbers ≡ alone2.numbers))
  offered_or_not =
      ⊎_elim (λ t. inl (t, ap (λ (h : Held). h.numbers) (alone_is ∙ cond-true (is_lone now) _ _ t)))
      (λ f. inr (f, ap (λ (h : Held). h.numbers) (alone_is ∙ cond-false (is_lone now) _ _ f)))
      (cases_Bool (is_lone now))

  more : (r : ℕ) → has alone2.numbers r ≡ true → has alone4.numbers r ≡ true
  more r h =
      ⊎_elim (λ t. ap (λ xs. has xs r) t.1 ∙ has_push alone2.numbers row r ∙ or_left (has alone2.numbers r) (row == r) h)
      (λ f. ap (λ xs. has xs r) f.1 ∙ h)
      offered_or_not

  -- a row that serves and is not offered was queued, so it served before
  served_here : is_serving done ≡ true → (is_serving (mark_at one row) ≡ true) ⊎ (has alone4.numbers row ≡ true)
  served_here s =
      let s' : is_serving now ≡ true = sym (offered-field is_serving (λ m. refl) (is_lone now) now) ∙ s in
      let alone_one = (and_parts (is_spare now) (now.parents == 1) s').1 in
      ⊎_elim
      (λ t. inr (ap (λ xs. has xs row) t.1 ∙ has_push alone2.numbers row row ∙ or_right (has alone2.numbers row) (row == row) (eq-eqb row row refl)))
      (λ f. ⊎_elim
      (λ e. absurd (both_ways _ e s'))
      (λ e. ⊎_elim
      (λ q. ⊎_elim inl (λ h. inr (more row h)) (loses.served row (and_from (is_spare was) (was.parents == 1) (losing.queue.spare row q) alone_one)))
      (λ q. absurd (both_ways (not was.queued) e (ap not q)))
      (cases_Bool was.queued))
      (and_cases ((now.fresh && not now.root) && (now.parents == 1)) (not now.queued) f.0))
      offered_or_not

  queued_two : queued_count four + length alone2.numbers ≡ queued_count two + length alone4.numbers
  queued_two =
      let flags = subst (λ ms. queued_count ms + one_if was.queued ≡ queued_count two + one_if done.queued) (sym four_is) (flag_count (λ m. m.queued) two row done within_two) in
      ⊎_elim
      (λ t. pushed _ _ _ _ _ _ flags (ap one_if (not-true was.queued (and_parts _ (not was.queued) t.0).1)) (ap (λ b. one_if (offered b now).queued) t.0) (ap length t.1 ∙ length-append alone2.numbers (row ∷ [])))
      (λ f. same _ _ _ _ _ _ flags (ap (λ b. one_if (offered b now).queued) f.0) (ap length f.1))
      offered_or_not
    where
      pushed : (q0 q1 a b l0 l1 : ℕ) → q1 + a ≡ q0 + b → a ≡ 0 → b ≡ 1 → l1 ≡ l0 + 1 → q1 + l0 ≡ q0 + l1
      pushed q0 q1 a b l0 l1 e f g h = omega arith

      same : (q0 q1 a b l0 l1 : ℕ) → q1 + a ≡ q0 + b → b ≡ a → l1 ≡ l0 → q1 + l0 ≡ q0 + l1
      same q0 q1 a b l0 l1 e f g = omega arith

  pub left_cuts : Cuts row one alone.numbers four alone4.numbers
  left_cuts = record {
    rows = len ∙ loses.rows;
    root = λ r. kept (λ (m : Mark). m.root) (λ m. refl) (λ m. refl) r ∙ loses.root r;
    cut = each (λ r k. k.cut ≡ ((row == r) || (mark_at one r).cut))
        (offered-field (λ (m : Mark). m.cut) (λ m. refl) (is_lone now) now ∙ sym (or_left (row == row) _ (eq-eqb row row refl)))
        (λ r other. loses.cut r ∙ sym (ap (λ b. b || (mark_at one r).cut) (ne_eqb row r other)));
    fresh = each (λ r k. k.fresh ≡ ((row == r) || (mark_at one r).fresh))
        (offered-field (λ (m : Mark). m.fresh) (λ m. refl) (is_lone now) now ∙ sym (or_left (row == row) _ (eq-eqb row row refl)))
        (λ r other. loses.fresh r ∙ sym (ap (λ b. b || (mark_at one r).fresh) (ne_eqb row r other)));
    touched = λ r. kept (λ (m : Mark). m.touched) (λ m. refl) (λ m. refl) r ∙ loses.touched r;
    rest = each (λ r k. (row == r) ≡ false → (mark_at one r).live ≡ false → k ≡ mark_at one r)
        (λ h. absurd (both_ways (row == row) h (eq-eqb row row refl))) (λ r other _ f. loses.rest r f);
    alone = λ r h. more r (loses.alone r h);
    served = each (λ r k. is_serving k ≡ true → (is_serving (mark_at one r) ≡ true) ⊎ (has alone4.numbers r ≡ true)) served_here
        (λ r other s. ⊎_elim inl (λ h. inr (more r h)) (loses.served r s));
    queued = sums _ _ _ _ _ _ loses.queued queued_two;
  }
    where
      sums : (q0 q1 q2 l0 l1 l2 : ℕ) → q1 + l0 ≡ q0 + l1 → q2 + l1 ≡ q1 + l2 → q2 + l0 ≡ q0 + l2
      sums q0 q1 q2 l0 l1 l2 e f = omega arith
