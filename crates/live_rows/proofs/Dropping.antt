-- What a write of one mark does to counts, and what taking one parent of a row back does to marks and lists.
use Rattle.std.proofs.Common.{◌≡◌, ◌⊎◌, ℕ, ◌+◌, ◌-◌, ◌<◌, ◌≤◌, Bool, true, false, not, ◌&&◌, ◌||◌, ◌==◌, if◌then◌else◌, List, [], ◌∷◌, ◌++◌, length, set, refl, sym, ap, ◌∙◌, subst, arith, inl, inr, ⊎_elim, length-set}
use Rattle.std.proofs.lemmas.Bool.{cases_Bool, cases_eq, cond-true, cond-false, and_parts, or_cases, or_left, or_right, eqb-true, eq-eqb, ne_eqb, not-true, both_ways, and_cases}
use Rattle.std.proofs.lemmas.List.{length-append, set-set, set-get_or}
use Rattle.expr_table.specs.Table.{has}
use Rattle.once_random.specs.Live.{AreAmong}
use Rattle.once_random.specs.Numbers.{count_below}
use Rattle.once_random.proofs.Facts.{count_below-same}
use Rattle.live_rows.specs.declared.mark.Mark.{Mark}
use Rattle.live_rows.specs.Lists.{Held}
use Rattle.live_rows.specs.Losing.{without_parent, freed, IsRead, IsLosing, is_serving, Loses, KeepsHeld}
use Rattle.live_rows.specs.Marks.{mark_at, empty_mark, is_spare, is_lone}
use Rattle.live_rows.specs.Spread.{offered}
use Rattle.live_rows.specs.State.{IsQueue}
use Rattle.live_rows.proofs.Counts.{count_more}
use Rattle.live_rows.proofs.Marks.{mark_at-same, mark_at-other, each_mark, queue_kept}
use Rattle.live_rows.proofs.Numbers.{has_push, distinct_push, room_left}

abbrev pub one_if : Bool → ℕ
one_if b = if b then 1 else 0

-- two tests that differ at one number alone
count_at : (n : ℕ) (f g : ℕ → Bool) (x : ℕ) → x < n → ((i : ℕ) → (i ≡ x → ⊥) → g i ≡ f i) → count_below n g + one_if (f x) ≡ count_below n f + one_if (g x)
count_at n f g x l others =
    ⊎_elim
    (λ ft. ⊎_elim
    (λ gt. same (λ i. at i (gt ∙ sym ft)) (ap one_if ft) (ap one_if gt))
    (λ gf. less _ _ (count_more g f n x l gf ft (λ i _ o. sym (others i o))) (ap one_if ft) (ap one_if gf))
    (cases_Bool (g x)))
    (λ ff. ⊎_elim
    (λ gt. more _ _ (count_more f g n x l ff gt (λ i _ o. others i o)) (ap one_if ff) (ap one_if gt))
    (λ gf. same (λ i. at i (gf ∙ sym ff)) (ap one_if ff) (ap one_if gf))
    (cases_Bool (g x)))
    (cases_Bool (f x))
  where
    at : (i : ℕ) → g x ≡ f x → g i ≡ f i
    at i h = ⊎_elim (λ e. subst (λ k. g k ≡ f k) (sym e) h) (others i) (cases_eq i x)

    same : {k : ℕ} → ((i : ℕ) → g i ≡ f i) → one_if (f x) ≡ k → one_if (g x) ≡ k → count_below n g + one_if (f x) ≡ count_below n f + one_if (g x)
    same h a b = (λ j. count_below-same n g f (λ i _. h i) j + (a ∙ sym b) j)

    less : {u v : ℕ} (a b : ℕ) → b ≡ a + 1 → u ≡ 1 → v ≡ 0 → a + u ≡ b + v
    less a b e f g = omega arith

    more : {u v : ℕ} (a b : ℕ) → a ≡ b + 1 → u ≡ 0 → v ≡ 1 → a + u ≡ b + v
    more a b e f g = omega arith

-- how many marks have a flag, after a write
pub flag_count : (flag : Mark → Bool) (marks : List Mark) (row : ℕ) (m : Mark) → row < length marks
    → count_below (length (set marks row m)) (λ r. flag (mark_at (set marks row m) r)) + one_if (flag (mark_at marks row)) ≡ count_below (length marks) (λ r. flag (mark_at marks r)) + one_if (flag m)
flag_count flag marks row m l =
    ap (λ n. count_below n (λ r. flag (mark_at (set marks row m) r)) + one_if (flag (mark_at marks row))) (length-set marks row m)
    ∙ count_at (length marks) (λ r. flag (mark_at marks r)) (λ r. flag (mark_at (set marks row m) r)) row l
    (λ i other. ap flag (mark_at-other marks row m i (λ e. other (sym e))))
    ∙ ap (λ b. count_below (length marks) (λ r. flag (mark_at marks r)) + one_if b) (ap flag (mark_at-same marks row m l))

-- an offer queues a row, and says nothing else of it
pub offered-field : {A : Type 0} (field : Mark → A) → ((m : Mark) → field (record m { queued = true }) ≡ field m) → (b : Bool) (m : Mark) → field (offered b m) ≡ field m
offered-field field same true m = same m
offered-field field same false m = refl

-- a row that was offered
pub offered_is : (marks : List Mark) (row : ℕ) (d : Mark) (new : List Mark) → row < length marks → mark_at marks row ≡ d
    → new ≡ (if is_lone (mark_at marks row) then set marks row (record (mark_at marks row) { queued = true }) else marks) → new ≡ set marks row (offered (is_lone d) d)
offered_is marks row d new l is h =
    h ∙ ⊎_elim
    (λ t. cond-true (is_lone (mark_at marks row)) _ _ t ∙ ap (set marks row) (sym (ap (λ b. offered b (mark_at marks row)) t)))
    (λ f. cond-false (is_lone (mark_at marks row)) _ _ f ∙ sym (set-get_or marks row empty_mark) ∙ ap (set marks row) (sym (ap (λ b. offered b (mark_at marks row)) f)))
    (cases_Bool (is_lone (mark_at marks row)))
    ∙ ap (λ m. set marks row (offered (is_lone m) m)) is

pub loses_none : (marks : List Mark) (list : List ℕ) → Loses marks list marks list
loses_none marks list = record {
  rows = refl;
  root = λ row. refl;
  cut = λ row. refl;
  fresh = λ row. refl;
  touched = λ row. refl;
  rest = λ row _. refl;
  alone = λ row h. h;
  served = λ row h. inl h;
  queued = refl;
}

pub loses_on : (m0 m1 m2 : List Mark) (a0 a1 a2 : List ℕ) → Loses m0 a0 m1 a1 → Loses m1 a1 m2 a2 → Loses m0 a0 m2 a2
loses_on m0 m1 m2 a0 a1 a2 x y = record {
  rows = y.rows ∙ x.rows;
  root = λ row. y.root row ∙ x.root row;
  cut = λ row. y.cut row ∙ x.cut row;
  fresh = λ row. y.fresh row ∙ x.fresh row;
  touched = λ row. y.touched row ∙ x.touched row;
  rest = λ row f. y.rest row (ap (λ (m : Mark). m.live) (x.rest row f) ∙ f) ∙ x.rest row f;
  alone = λ row h. y.alone row (x.alone row h);
  served = λ row h. ⊎_elim (λ s. ⊎_elim inl (λ t. inr (y.alone row t)) (x.served row s)) inr (y.served row h);
  queued = sums _ _ _ _ _ _ x.queued y.queued;
}
  where
    sums : (q0 q1 q2 l0 l1 l2 : ℕ) → q1 + l0 ≡ q0 + l1 → q2 + l1 ≡ q1 + l2 → q2 + l0 ≡ q0 + l2
    sums q0 q1 q2 l0 l1 l2 e f = omega arith

-- One mark of a live row is written.
module _ (marks : List Mark) (row : ℕ) (l : row < length marks) (m : Mark) where
  loses_set : (before after : List ℕ) → m.root ≡ (mark_at marks row).root → m.cut ≡ (mark_at marks row).cut → m.fresh ≡ (mark_at marks row).fresh
      → m.touched ≡ (mark_at marks row).touched → (mark_at marks row).live ≡ true → AreAmong before after
      → (is_serving m ≡ true → (is_serving (mark_at marks row) ≡ true) ⊎ (has after row ≡ true))
      → one_if m.queued + length before ≡ one_if (mark_at marks row).queued + length after → Loses marks before (set marks row m) after
  loses_set before after root cut fresh touched live among served queued = record {
    rows = length-set marks row m;
    root = each_mark (λ r k. k.root ≡ (mark_at marks r).root) marks row m l root (λ r _. refl);
    cut = each_mark (λ r k. k.cut ≡ (mark_at marks r).cut) marks row m l cut (λ r _. refl);
    fresh = each_mark (λ r k. k.fresh ≡ (mark_at marks r).fresh) marks row m l fresh (λ r _. refl);
    touched = each_mark (λ r k. k.touched ≡ (mark_at marks r).touched) marks row m l touched (λ r _. refl);
    rest = each_mark (λ r k. (mark_at marks r).live ≡ false → k ≡ mark_at marks r) marks row m l (λ f. absurd (both_ways (mark_at marks row).live f live)) (λ r _ _. refl);
    alone = among;
    served = each_mark (λ r k. is_serving k ≡ true → (is_serving (mark_at marks r) ≡ true) ⊎ (has after r ≡ true)) marks row m l served (λ r _ s. inl s);
    queued = sums _ _ _ _ _ _ (flag_count (λ k. k.queued) marks row m l) queued;
  }
    where
      sums : (q0 q1 a b l0 l1 : ℕ) → q1 + a ≡ q0 + b → b + l0 ≡ a + l1 → q1 + l0 ≡ q0 + l1
      sums q0 q1 a b l0 l1 e f = omega arith

-- One parent of a live row is taken back.
module _ (marks : List Mark) (row parent : ℕ) (read : IsRead marks row) where
  abbrev was : Mark
  was = mark_at marks row

  abbrev now : Mark
  now = without_parent parent (mark_at marks row)

  abbrev done : Mark
  done = offered (is_lone now) now

  -- once a row that is live may serve a cut by this, it is offered
  freed_is : (one new : List Mark) → one ≡ set marks row now
      → new ≡ (if is_lone (mark_at one row) then set one row (record (mark_at one row) { queued = true }) else one) → new ≡ set marks row (freed true parent was)
  freed_is one new is h =
      let here : mark_at one row ≡ now = ap (λ ms. mark_at ms row) is ∙ mark_at-same marks row now read.within in
      offered_is one row now new (subst (λ ms. row < length ms) (sym is) (subst (λ n. row < n) (sym (length-set marks row now)) read.within)) here h
      ∙ ap (λ ms. set ms row done) is ∙ set-set marks row now done

  fewer_than_two : (p : ℕ) → p ≤ 1 → (p - 1) ≡ 1 → ⊥
  fewer_than_two p le is = omega arith

  -- what is spare, is read by one row alone and is not lone was queued
  lone_or_queued : is_serving now ≡ true → is_lone now ≡ false → was.queued ≡ true
  lone_or_queued s f =
      ⊎_elim (λ e. absurd (both_ways _ e s)) (λ e. ⊎_elim (λ t. t) (λ q. absurd (both_ways (not was.queued) e (ap not q))) (cases_Bool was.queued))
      (and_cases ((now.fresh && not now.root) && (now.parents == 1)) (not now.queued) f)

  freed_loses : (alone : List ℕ) → IsQueue marks alone → Loses marks alone (set marks row (freed true parent was)) (if is_lone now then alone ++ row ∷ [] else alone)
  freed_loses alone queue =
      ⊎_elim
      (λ t. subst (λ xs. Loses marks alone (set marks row done) xs) (sym (cond-true (is_lone now) _ _ t))
      (let unqueued : was.queued ≡ false = not-true was.queued (and_parts _ (not was.queued) t).1 in
      step (alone ++ row ∷ []) (λ r h. has_push alone row r ∙ or_left (has alone r) (row == r) h)
      (λ _. inr (has_push alone row row ∙ or_right (has alone row) (row == row) (eq-eqb row row refl)))
      (pushed _ _ _ _ (ap (λ b. one_if (offered b now).queued) t) (ap one_if unqueued) (length-append alone (row ∷ [])))))
      (λ f. subst (λ xs. Loses marks alone (set marks row done) xs) (sym (cond-false (is_lone now) _ _ f))
      (step alone (λ r h. h)
      (λ s.
      let s' : is_serving now ≡ true = sym (serving_done now) ∙ s in
      let q = lone_or_queued s' f in
      let one : now.parents ≡ 1 = eqb-true now.parents 1 (and_parts (is_spare now) (now.parents == 1) s').1 in
      absurd (fewer_than_two was.parents (queue.one row q) one))
      (ap (λ b. one_if (offered b now).queued + length alone) f)))
      (cases_Bool (is_lone now))
    where
      serving_done : (d : Mark) → is_serving (offered (is_lone d) d) ≡ is_serving d
      serving_done d = offered-field is_serving (λ m. refl) (is_lone d) d

      pushed : (a b l0 l1 : ℕ) → a ≡ 1 → b ≡ 0 → l1 ≡ l0 + 1 → a + l0 ≡ b + l1
      pushed a b l0 l1 e f g = omega arith

      step : (after : List ℕ) → AreAmong alone after → (is_serving done ≡ true → (is_serving was ≡ true) ⊎ (has after row ≡ true))
          → one_if done.queued + length alone ≡ one_if was.queued + length after → Loses marks alone (set marks row done) after
      step after among served queued =
          loses_set marks row read.within done alone after
          (offered-field (λ (m : Mark). m.root) (λ m. refl) (is_lone now) now) (offered-field (λ (m : Mark). m.cut) (λ m. refl) (is_lone now) now)
          (offered-field (λ (m : Mark). m.fresh) (λ m. refl) (is_lone now) now) (offered-field (λ (m : Mark). m.touched) (λ m. refl) (is_lone now) now)
          read.live among served queued

  -- the queue, before the row is offered
  pub queue_taken : (alone : List ℕ) → IsQueue marks alone → IsQueue (set marks row now) alone
  queue_taken alone queue =
      queue_kept marks alone row now queue read.within refl (λ q. queue.spare row q) (λ q. less _ (queue.one row q))
    where
      less : (p : ℕ) → p ≤ 1 → p - 1 ≤ 1
      less p h = omega arith

  done_live : done.live ≡ now.live
  done_live = offered-field (λ (m : Mark). m.live) (λ m. refl) (is_lone now) now

  -- the list of rows lost, once the row was listed where it is live no longer
  abbrev pub lost_now : List ℕ → List ℕ
  lost_now lost = if now.live then lost else lost ++ row ∷ []

  module _ (lost : List ℕ) (lacks : has lost row ≡ false) where
    freed_held : KeepsHeld marks lost (set marks row (freed true parent was)) (lost_now lost)
    freed_held =
        ⊎_elim
        (λ t. subst (KeepsHeld marks lost (set marks row done)) (sym (cond-true now.live _ _ t))
        (record {
          each = each_mark (λ r k. (k.live || has lost r) ≡ ((mark_at marks r).live || has lost r)) marks row done read.within (ap (λ b. b || has lost row) (done_live ∙ t ∙ sym read.live)) (λ r _. refl);
          count = same _ _ _ _ _ (flag_count (λ k. k.live) marks row done read.within) (ap one_if read.live) (ap one_if (done_live ∙ t));
        }))
        (λ f. subst (KeepsHeld marks lost (set marks row done)) (sym (cond-false now.live _ _ f))
        (record {
          each = each_mark (λ r k. (k.live || has (lost ++ row ∷ []) r) ≡ ((mark_at marks r).live || has lost r)) marks row done read.within
              (or_right done.live _ (has_push lost row row ∙ or_right (has lost row) (row == row) (eq-eqb row row refl)) ∙ sym (or_left was.live (has lost row) read.live))
              (λ r other. ap (λ b. (mark_at marks r).live || b) (has_push lost row r ∙ ap (λ b. has lost r || b) (ne_eqb row r other) ∙ or_none (has lost r)));
          count = more _ _ _ _ _ _ (flag_count (λ k. k.live) marks row done read.within) (ap one_if read.live) (ap one_if (done_live ∙ f)) (length-append lost (row ∷ []));
        }))
        (cases_Bool now.live)
      where
        or_none : (b : Bool) → (b || false) ≡ b
        or_none true = refl
        or_none false = refl

        same : (c0 c1 a b k : ℕ) → c1 + a ≡ c0 + b → a ≡ 1 → b ≡ 1 → c1 + k ≡ c0 + k
        same c0 c1 a b k e f g = omega arith

        more : (c0 c1 a b k j : ℕ) → c1 + a ≡ c0 + b → a ≡ 1 → b ≡ 0 → j ≡ k + 1 → c1 + j ≡ c0 + k
        more c0 c1 a b k j e f g h = omega arith

  -- a live row is not among those lost
  not_lost : (alone lost : Held) → IsLosing marks alone lost → has lost.numbers row ≡ false
  not_lost alone lost losing =
      ⊎_elim (λ t. absurd (both_ways was.live (losing.gone row t) read.live)) (λ f. f) (cases_Bool (has lost.numbers row))

  pub lost_room : (alone lost : Held) → IsLosing marks alone lost → length lost.numbers < lost.room
  lost_room alone lost losing =
      subst (λ n. length lost.numbers < n) (sym losing.lost_room)
      (room_left (length marks) lost.numbers row losing.distinct losing.within read.within (not_lost alone lost losing))

  freed_losing : (alone lost alone' lost' : Held) → IsLosing marks alone lost → IsQueue (set marks row (freed true parent was)) alone'.numbers → alone'.room ≡ alone.room
      → lost' ≡ (if now.live then lost else record lost { numbers = lost.numbers ++ row ∷ [] }) → IsLosing (set marks row (freed true parent was)) alone' lost'
  freed_losing alone lost alone' lost' losing queue room is =
      subst (IsLosing (set marks row done) alone') (sym is)
      (⊎_elim
      (λ t. subst (IsLosing (set marks row done) alone') (sym (cond-true now.live _ _ t))
      (record {
        queue = queue;
        alone_room = room ∙ losing.alone_room ∙ sym len;
        lost_room = losing.lost_room ∙ sym len;
        distinct = losing.distinct;
        within = λ r h. subst (λ n. r < n) (sym len) (losing.within r h);
        gone = gone;
      }))
      (λ f. subst (IsLosing (set marks row done) alone') (sym (cond-false now.live _ _ f))
      (record {
        queue = queue;
        alone_room = room ∙ losing.alone_room ∙ sym len;
        lost_room = losing.lost_room ∙ sym len;
        distinct = distinct_push lost.numbers row losing.distinct (not_lost alone lost losing);
        within = λ r h. subst (λ n. r < n) (sym len)
            (⊎_elim (losing.within r) (λ e. subst (λ q. q < length marks) (eqb-true row r e) read.within) (or_cases (has lost.numbers r) (row == r) (sym (has_push lost.numbers row r) ∙ h)));
        gone = λ r h. ⊎_elim (gone r)
            (λ e. subst (λ q. (mark_at (set marks row done) q).live ≡ false) (eqb-true row r e) (ap (λ (m : Mark). m.live) (mark_at-same marks row done read.within) ∙ done_live ∙ f))
            (or_cases (has lost.numbers r) (row == r) (sym (has_push lost.numbers row r) ∙ h));
      }))
      (cases_Bool now.live))
    where
      len : length (set marks row done) ≡ length marks
      len = length-set marks row done

      gone : (r : ℕ) → has lost.numbers r ≡ true → (mark_at (set marks row done) r).live ≡ false
      gone r h =
          ap (λ (m : Mark). m.live) (mark_at-other marks row done r (λ e. both_ways (has lost.numbers row) (not_lost alone lost losing) (subst (λ q. has lost.numbers q ≡ true) (sym e) h)))
          ∙ losing.gone r h

  -- what the three calls leave that take the parent back, list the row where it is lost, and offer it
  module _ (alone lost : Held) (losing : IsLosing marks alone lost) (one new : List Mark) (alone' lost' : Held) (took : one ≡ set marks row now)
      (listed : lost' ≡ (if (mark_at one row).live then lost else record lost { numbers = lost.numbers ++ row ∷ [] }))
      (offered_marks : new ≡ (if is_lone (mark_at one row) then set one row (record (mark_at one row) { queued = true }) else one))
      (offered_alone : alone' ≡ (if is_lone (mark_at one row) then record alone { numbers = alone.numbers ++ row ∷ [] } else alone)) (queue : IsQueue new alone'.numbers) where
    here : mark_at one row ≡ now
    here = ap (λ ms. mark_at ms row) took ∙ mark_at-same marks row now read.within

    listed_now : lost' ≡ (if now.live then lost else record lost { numbers = lost.numbers ++ row ∷ [] })
    listed_now = listed ∙ ap (λ (m : Mark). if m.live then lost else record lost { numbers = lost.numbers ++ row ∷ [] }) here

    alone_now : alone' ≡ (if is_lone now then record alone { numbers = alone.numbers ++ row ∷ [] } else alone)
    alone_now = offered_alone ∙ ap (λ (m : Mark). if is_lone m then record alone { numbers = alone.numbers ++ row ∷ [] } else alone) here

    numbers_if : (b : Bool) (h : Held) (xs : List ℕ) → (if b then record h { numbers = xs } else h).numbers ≡ (if b then xs else h.numbers)
    numbers_if true h xs = refl
    numbers_if false h xs = refl

    numbers_else : (b : Bool) (h : Held) (xs : List ℕ) → (if b then h else record h { numbers = xs }).numbers ≡ (if b then h.numbers else xs)
    numbers_else true h xs = refl
    numbers_else false h xs = refl

    room_if : (b : Bool) (h : Held) (xs : List ℕ) → (if b then record h { numbers = xs } else h).room ≡ h.room
    room_if true h xs = refl
    room_if false h xs = refl

    pub drop_marks : new ≡ set marks row (freed true parent was)
    drop_marks = freed_is one new took offered_marks

    pub drop_loses : Loses marks alone.numbers new alone'.numbers
    drop_loses =
        subst (λ ms. Loses marks alone.numbers ms alone'.numbers) (sym drop_marks)
        (subst (Loses marks alone.numbers (set marks row done)) (sym (ap (λ (h : Held). h.numbers) alone_now ∙ numbers_if (is_lone now) alone (alone.numbers ++ row ∷ [])))
        (freed_loses alone.numbers losing.queue))

    pub drop_held : KeepsHeld marks lost.numbers new lost'.numbers
    drop_held =
        subst (λ ms. KeepsHeld marks lost.numbers ms lost'.numbers) (sym drop_marks)
        (subst (KeepsHeld marks lost.numbers (set marks row done)) (sym (ap (λ (h : Held). h.numbers) listed_now ∙ numbers_else now.live lost (lost.numbers ++ row ∷ [])))
        (freed_held lost.numbers (not_lost alone lost losing)))

    pub drop_losing : IsLosing new alone' lost'
    drop_losing =
        subst (λ ms. IsLosing ms alone' lost') (sym drop_marks)
        (freed_losing alone lost alone' lost' losing (subst (λ ms. IsQueue ms alone'.numbers) drop_marks queue)
        (ap (λ (h : Held). h.room) alone_now ∙ room_if (is_lone now) alone (alone.numbers ++ row ∷ [])) listed_now)
