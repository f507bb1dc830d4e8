-- One more cut: the row was touched, it left its sides, and the rows lost by that left theirs.
use Rattle.std.proofs.Common.{◌≡◌, ◌⊎◌, ℕ, ◌+◌, ◌<◌, ◌≤◌, Bool, true, false, not, ◌&&◌, ◌||◌, ◌==◌, List, [], ◌∷◌, length, set, refl, sym, ap, ◌∙◌, subst, arith, inl, inr, ⊎_elim, length-set}
use Rattle.std.proofs.lemmas.Bool.{cases_Bool, cases_eq, and_from, and_left, and_right, or_left, or_right, eq-eqb, eqb-true, ne_eqb, both_ways, cond-true}
use Rattle.expr_table.specs.declared.node.Node.{Node}
use Rattle.expr_table.specs.Table.{node_at, sides, has}
use Rattle.once_random.specs.Cuts.{is_fresh, is_random}
use Rattle.once_random.specs.Live.{AreAmong, is_live, live_parents, AreLower}
use Rattle.once_random.specs.Numbers.{count_below}
use Rattle.once_random.proofs.Facts.{count_below-same}
use Rattle.live_rows.specs.declared.mark.Mark.{Mark}
use Rattle.live_rows.specs.Lists.{with_added}
use Rattle.live_rows.specs.Losing.{CountsAs, Cuts, freed, is_counting, is_serving, IsRead, KeepsHeld, Loses, marked_live}
use Rattle.live_rows.specs.Marks.{mark_at, is_spare, queued_count}
use Rattle.live_rows.specs.Shown.{IsShown, Shows, live_count, serves}
use Rattle.live_rows.specs.Spread.{IsCounted}
use Rattle.live_rows.specs.State.{IsFound}
use Rattle.live_rows.proofs.Counted.{is_reader, settle, unsettle}
use Rattle.live_rows.proofs.Freeing.{counted_kept, counted_same, freed_counted, side_read}
use Rattle.live_rows.proofs.Leaving.{field_kept, flags_kept}
use Rattle.live_rows.proofs.Marks.{mark_at-same}
use Rattle.live_rows.proofs.Numbers.{or-false}

-- a row serves by its mark where it serves by what the marks show
serving_shown : (nodes : List Node) → AreLower nodes → (roots cuts : List ℕ) (marks : List Mark) → Shows nodes roots cuts marks → (r : ℕ) → is_serving (mark_at marks r) ≡ serves nodes roots cuts r
serving_shown nodes lower roots cuts marks shows r =
    ⊎_elim
    (λ one.
    let some : 0 < (mark_at marks r).parents = let e : (mark_at marks r).parents ≡ 1 = eqb-true (mark_at marks r).parents 1 one in omega arith in
    let live = (unsettle nodes roots cuts marks lower shows).read r some in
    (λ i. (shows.fresh r (sym (shows.live r) ∙ live) i && not (shows.root r i)) && (shows.parents r i == 1))
    ∙ and_assoc (is_fresh nodes cuts r) (not (has roots r)) (live_parents nodes roots cuts r == 1))
    (λ none.
    and_right (is_spare (mark_at marks r)) _ none
    ∙ sym (and_right (is_fresh nodes cuts r) _ (and_right (not (has roots r)) _ (ap (λ n. n == 1) (sym (shows.parents r)) ∙ none))))
    (cases_Bool ((mark_at marks r).parents == 1))
  where
    and_assoc : (a b c : Bool) → ((a && b) && c) ≡ (a && (b && c))
    and_assoc true b c = refl
    and_assoc false b c = refl

-- as many rows are marked live as are live
live_shown : (nodes : List Node) (roots cuts : List ℕ) (marks : List Mark) → Shows nodes roots cuts marks → marked_live marks ≡ live_count nodes roots cuts
live_shown nodes roots cuts marks shows =
    ap (λ n. count_below n (λ r. (mark_at marks r).live)) shows.rows
    ∙ count_below-same (length nodes) (λ r. (mark_at marks r).live) (is_live nodes roots cuts) (λ r _. shows.live r)

-- a row that is live was found
pub found_live : (marks : List Mark) (found : List ℕ) → IsFound marks found → (r : ℕ) → (mark_at marks r).live ≡ true → with_added found r ≡ found
found_live marks found listed r l =
    cond-true (has found r) _ _
    (listed.each r ∙ ⊎_elim (λ t. t) (λ f. absurd (both_ways (mark_at marks r).live (ap (λ (m : Mark). m.live) (listed.empty r f)) l)) (cases_Bool (mark_at marks r).touched))

-- what one more cut leaves, where so many rows were live or lost once the row had left its sides
pub record IsCutOnce (nodes : List Node) (row : ℕ) (old new : List Mark) (found before after : List ℕ) (held : ℕ) : Type 0 where
  pub listed : IsFound new found
  pub rows : length new ≡ length old
  pub shows : (roots cuts : List ℕ) → Shows nodes roots cuts old → Shows nodes roots (row ∷ cuts) new
  pub alone : AreAmong before after
  pub served : (roots cuts : List ℕ) → Shows nodes roots cuts old → (r : ℕ) → serves nodes roots (row ∷ cuts) r ≡ true
      → (serves nodes roots cuts r ≡ true) ⊎ (has after r ≡ true)
  pub queued : queued_count new + length before ≡ queued_count old + length after
  pub cost : (roots cuts : List ℕ) → Shows nodes roots cuts old → (first last : ℕ) → last + marked_live new ≤ first + held
      → last + live_count nodes roots (row ∷ cuts) ≤ first + live_count nodes roots cuts

-- a slice of the marks was touched
pub touched_in : (old items slice one : List Mark) (row : ℕ) → items ≡ old → slice ≡ items → one ≡ set slice row (record (mark_at slice row) { touched = true })
    → one ≡ set old row (record (mark_at old row) { touched = true })
touched_in old items slice one row is value touched =
    touched ∙ ap (λ ms. set ms row (record (mark_at ms row) { touched = true })) (value ∙ is)

-- The row was touched.
module _ (nodes : List Node) (lower : AreLower nodes) (old one : List Mark) (row : ℕ) (within : row < length old) (shown : IsShown nodes old) (uncut : (mark_at old row).cut ≡ false)
    (touched : one ≡ set old row (record (mark_at old row) { touched = true })) where
  -- what a touch does not say stays
  kept : {A : Type 0} (field : Mark → A) → ((m : Mark) → field (record m { touched = true }) ≡ field m) → (r : ℕ) → field (mark_at one r) ≡ field (mark_at old r)
  kept field same = field_kept field old one row (record (mark_at old row) { touched = true }) within touched (same (mark_at old row))

  len : length one ≡ length old
  len = ap length touched ∙ length-set old row (record (mark_at old row) { touched = true })

  counted_one : IsCounted nodes (is_reader old) one
  counted_one =
      counted_kept nodes (is_reader old) old one len
      (kept (λ (m : Mark). m.parents) (λ m. refl)) (kept (λ (m : Mark). m.mixed) (λ m. refl)) (kept (λ (m : Mark). m.live) (λ m. refl)) (kept (λ (m : Mark). m.root) (λ m. refl))
      (unsettle nodes shown.roots shown.cuts old lower shown.shown)

  row_within : row < length nodes
  row_within = subst (λ n. row < n) shown.shown.rows within

  reading : (mark_at one row).live ≡ true → is_reader old row ≡ true
  reading l = and_from (mark_at old row).live _ (sym (kept (λ (m : Mark). m.live) (λ m. refl) row) ∙ l) (ap not uncut)

  -- its sides are read, where it is live
  pub cut_read : (mark_at one row).live ≡ true → (side : ℕ) → has (sides (node_at nodes row)) side ≡ true → IsRead one side
  cut_read l side h = side_read nodes lower (is_reader old) one counted_one row side row_within (reading l) h

  -- It left its sides.
  module _ (a b : ℕ) (is : sides (node_at nodes row) ≡ a ∷ b ∷ []) (four : List Mark) (alone alone4 lost lost4 : List ℕ) (none : lost ≡ [])
      (counts : (r : ℕ) → CountsAs (mark_at four r) (freed ((mark_at one row).live && has (a ∷ b ∷ []) r) row (mark_at one r))) (cuts4 : Cuts row one alone four alone4) (held : KeepsHeld one lost four lost4) where
    rest_row : is_counting four lost4 row ≡ false
    rest_row = and_right ((mark_at four row).live || has lost4 row) _ (ap not (cuts4.cut row ∙ or_left (row == row) _ (eq-eqb row row refl)))

    rest_other : (p : ℕ) → (p ≡ row → ⊥) → is_counting four lost4 p ≡ is_reader old p
    rest_other p other =
        let lived : ((mark_at four p).live || has lost4 p) ≡ (mark_at old p).live =
        held.each p ∙ ap (λ l. (mark_at one p).live || has l p) none ∙ or-false (mark_at one p).live ∙ kept (λ (m : Mark). m.live) (λ m. refl) p in
        let cut : (mark_at four p).cut ≡ (mark_at old p).cut =
        cuts4.cut p ∙ ap (λ v. v || (mark_at one p).cut) (ne_eqb row p (λ e. other (sym e))) ∙ kept (λ (m : Mark). m.cut) (λ m. refl) p in
        λ i. lived i && not (cut i)

    pub left_counted : IsCounted nodes (is_counting four lost4) four
    left_counted =
        ⊎_elim
        (λ l. freed_counted nodes (is_reader old) (is_counting four lost4) row row_within (reading l) rest_row rest_other one four cuts4.rows
        (λ r. subst (λ v. CountsAs (mark_at four r) (freed v row (mark_at one r))) (ap (λ v. v && has (a ∷ b ∷ []) r) l ∙ ap (λ xs. has xs r) (sym is)) (counts r))
        counted_one)
        (λ l.
        let as_one : (r : ℕ) → CountsAs (mark_at four r) (mark_at one r) =
        λ r. subst (λ v. CountsAs (mark_at four r) (freed v row (mark_at one r))) (and_left (mark_at one row).live (has (a ∷ b ∷ []) r) l) (counts r) in
        let dead : is_reader old row ≡ false = and_left (mark_at old row).live _ (sym (kept (λ (m : Mark). m.live) (λ m. refl) row) ∙ l) in
        counted_kept nodes (is_counting four lost4) one four cuts4.rows (λ r. (as_one r).parents) (λ r. (as_one r).mixed) (λ r. (as_one r).live) (λ r. (as_one r).root)
        (counted_same nodes (is_reader old) (is_counting four lost4) one
        (λ r p. ap (λ v. v && has (sides (node_at nodes p)) r)
        (⊎_elim (λ e. subst (λ q. is_reader old q ≡ is_counting four lost4 q) (sym e) (dead ∙ sym rest_row)) (λ other. sym (rest_other p other)) (cases_eq p row)))
        counted_one))
        (cases_Bool (mark_at one row).live)

    -- The rows lost by that left theirs.
    module _ (five : List Mark) (alone5 found : List ℕ) (loses : Loses four alone4 five alone5) (counted : IsCounted nodes (is_counting five []) five) (listed : IsFound one found) where
      row_touched : (mark_at one row).touched ≡ true
      row_touched = ap (λ ms. (mark_at ms row).touched) touched ∙ ap (λ (m : Mark). m.touched) (mark_at-same old row (record (mark_at old row) { touched = true }) within)

      cut_listed : IsFound five found
      cut_listed = record {
        distinct = listed.distinct;
        each = λ r. listed.each r ∙ sym (loses.touched r ∙ cuts4.touched r);
        empty = λ r h.
            let was : (mark_at one r).touched ≡ false = sym (loses.touched r ∙ cuts4.touched r) ∙ h in
            let none_known = listed.empty r was in
            let other : (row == r) ≡ false = ne_eqb row r (λ e. both_ways (mark_at one r).touched was (subst (λ q. (mark_at one q).touched ≡ true) e row_touched)) in
            let left = cuts4.rest r other (ap (λ (m : Mark). m.live) none_known) ∙ none_known in
            loses.rest r (ap (λ (m : Mark). m.live) left) ∙ left;
      }

      -- no row becomes live
      lived : (r : ℕ) → (mark_at five r).live ≡ true → (row == r) ≡ false → (mark_at old r).live ≡ true
      lived r l other =
          ⊎_elim
          (λ t. sym (kept (λ (m : Mark). m.live) (λ m. refl) r) ∙ t)
          (λ f.
          let left : (mark_at four r).live ≡ false = ap (λ (m : Mark). m.live) (cuts4.rest r other f) ∙ f in
          absurd (both_ways (mark_at five r).live (ap (λ (m : Mark). m.live) (loses.rest r left) ∙ left) l))
          (cases_Bool (mark_at one r).live)

      cut_shows : (roots cuts : List ℕ) → Shows nodes roots cuts old → Shows nodes roots (row ∷ cuts) five
      cut_shows roots cuts shows =
          settle nodes roots (row ∷ cuts) five lower
          (λ r. loses.root r ∙ cuts4.root r ∙ kept (λ (m : Mark). m.root) (λ m. refl) r ∙ shows.root r)
          (λ r. loses.cut r ∙ cuts4.cut r ∙ ap (λ b. (row == r) || b) (kept (λ (m : Mark). m.cut) (λ m. refl) r ∙ shows.cut r))
          (counted_same nodes (is_counting five []) (is_reader five) five
          (λ r p. ap (λ v. (v && not (mark_at five p).cut) && has (sides (node_at nodes p)) r) (or-false (mark_at five p).live))
          counted)
          (λ r l. loses.fresh r ∙ cuts4.fresh r ∙ ⊎_elim
          (λ t. or_left (row == r) _ t ∙ sym (or_right (is_random (node_at nodes r)) _ (or_left (row == r) (has cuts r) t)))
          (λ f.
          ap (λ b. b || (mark_at one r).fresh) f
          ∙ kept (λ (m : Mark). m.fresh) (λ m. refl) r
          ∙ shows.fresh r (sym (shows.live r) ∙ lived r l f)
          ∙ ap (λ b. is_random (node_at nodes r) || (b || has cuts r)) (sym f))
          (cases_Bool (row == r)))

      cut_alone : AreAmong alone alone5
      cut_alone r h = loses.alone r (cuts4.alone r h)

      cut_served : (roots cuts : List ℕ) → Shows nodes roots cuts old → (r : ℕ) → serves nodes roots (row ∷ cuts) r ≡ true → (serves nodes roots cuts r ≡ true) ⊎ (has alone5 r ≡ true)
      cut_served roots cuts shows r s =
          ⊎_elim
          (λ t. ⊎_elim
          (λ u. inl (sym (serving_shown nodes lower roots cuts old shows r) ∙ sym (kept is_serving (λ m. refl) r) ∙ u))
          (λ h. inr (loses.alone r h))
          (cuts4.served r t))
          inr
          (loses.served r (serving_shown nodes lower roots (row ∷ cuts) five (cut_shows roots cuts shows) r ∙ s))

      cut_queued : queued_count five + length alone ≡ queued_count old + length alone5
      cut_queued =
          sums _ _ _ _ _ _ _ (flags_kept (λ m. m.queued) old one len (kept (λ (m : Mark). m.queued) (λ m. refl))) cuts4.queued loses.queued
        where
          sums : (q q0 q1 q2 l0 l1 l2 : ℕ) → q0 ≡ q → q1 + l0 ≡ q0 + l1 → q2 + l1 ≡ q1 + l2 → q2 + l0 ≡ q + l2
          sums q q0 q1 q2 l0 l1 l2 e f g = omega arith

      cut_cost : (roots cuts : List ℕ) → Shows nodes roots cuts old → (first last : ℕ) → last + marked_live five ≤ first + (marked_live four + length lost4)
          → last + live_count nodes roots (row ∷ cuts) ≤ first + live_count nodes roots cuts
      cut_cost roots cuts shows first last h =
          sums _ _ _ _ _ _ _ h held.count (ap length none) (flags_kept (λ m. m.live) old one len (kept (λ (m : Mark). m.live) (λ m. refl)))
          (live_shown nodes roots cuts old shows) (live_shown nodes roots (row ∷ cuts) five (cut_shows roots cuts shows))
        where
          sums : (f4 f5 k l0 m1 m0 c0 : ℕ) {c5 : ℕ} → last + f5 ≤ first + (f4 + k) → f4 + k ≡ m1 + l0 → l0 ≡ 0 → m1 ≡ m0 → m0 ≡ c0 → f5 ≡ c5 → last + c5 ≤ first + c0
          sums f4 f5 k l0 m1 m0 c0 h a b c d e = omega arith

      pub cut_made : IsCutOnce nodes row old five found alone alone5 (marked_live four + length lost4)
      cut_made = record {
        listed = cut_listed;
        rows = loses.rows ∙ cuts4.rows ∙ len;
        shows = cut_shows;
        alone = cut_alone;
        served = cut_served;
        queued = cut_queued;
        cost = cut_cost;
      }
