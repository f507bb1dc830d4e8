-- One more row that is found is looked at.
use Rattle.std.proofs.Common.{◌≡◌, ℕ, ◌+◌, ◌<◌, ◌≤◌, ◌==◌, Bool, true, false, ◌&&◌, ◌||◌, if◌then◌else◌, bit_xor, List, [], ◌∷◌, ◌++◌, length, get_or, take, refl, sym, ap, ◌∙◌, subst, arith, add-zero, ⊎_elim}
use Rattle.std.specs.Int.Bits.{xor_zero_r}
use Rattle.std.proofs.lemmas.Bool.{cases_Bool, cases_eq, cond-true, cond-false, and_from, and_left, and_right, or_left, or_right, eq-eqb, eqb-true, ne_eqb, false≢true}
use Rattle.std.proofs.lemmas.List.{length-append, take-append-le, take_more}
use Rattle.expr_table.specs.declared.node.Node.{Node}
use Rattle.expr_table.specs.declared.node.Node.TheVariants as node
use Rattle.expr_table.specs.Table.{node_at, sides, has}
use Rattle.once_random.specs.Cuts.{is_random}
use Rattle.once_random.specs.Numbers.{count_below}
use Rattle.once_random.proofs.Facts.{count_below-le, count_below-same}
use Rattle.live_rows.specs.declared.mark.Mark.{Mark}
use Rattle.live_rows.specs.Marks.{mark_at}
use Rattle.live_rows.specs.Shown.{mixed_below}
use Rattle.live_rows.specs.Spread.{looked, noted, reads, IsCounted, IsSpread}
use Rattle.live_rows.specs.State.{IsFound}
use Rattle.live_rows.proofs.Counts.{count_more, mixed_more, mixed_same}
use Rattle.live_rows.proofs.Marks.{found_within}
use Rattle.live_rows.proofs.Numbers.{has_push, has_at, not_in_front, or-false}

-- the fields of a mark once a row was looked at
module _ (row : ℕ) (m : Mark) where
  looked_live : (b c : Bool) → (looked row b c m).live ≡ (b || m.live)
  looked_live true c = refl
  looked_live false true = refl
  looked_live false false = refl

  looked_touched : (b c : Bool) → (looked row b c m).touched ≡ (b || m.touched)
  looked_touched true c = refl
  looked_touched false true = refl
  looked_touched false false = refl

  looked_root : (b c : Bool) → (looked row b c m).root ≡ m.root
  looked_root true c = refl
  looked_root false true = refl
  looked_root false false = refl

  looked_cut : (b c : Bool) → (looked row b c m).cut ≡ m.cut
  looked_cut true c = refl
  looked_cut false true = refl
  looked_cut false false = refl

  looked_queued : (b c : Bool) → (looked row b c m).queued ≡ m.queued
  looked_queued true c = refl
  looked_queued false true = refl
  looked_queued false false = refl

  looked_parents : (b c : Bool) → (looked row b c m).parents ≡ m.parents + (if b then 1 else 0)
  looked_parents true c = refl
  looked_parents false true = sym (add-zero m.parents)
  looked_parents false false = sym (add-zero m.parents)

  looked_mixed : (b c : Bool) → (looked row b c m).mixed ≡ bit_xor m.mixed (if b then row else 0)
  looked_mixed true c = refl
  looked_mixed false true = sym (xor_zero_r m.mixed)
  looked_mixed false false = sym (xor_zero_r m.mixed)

  looked_fresh : (b c : Bool) → (b ≡ true → c ≡ false) → (looked row b c m).fresh ≡ (m.fresh || c)
  looked_fresh true c h = sym (ap (λ d. m.fresh || d) (h refl) ∙ or-false m.fresh)
  looked_fresh false true h = sym (or_right m.fresh true refl)
  looked_fresh false false h = sym (or-false m.fresh)

-- a node with a side is no random leaf
no_leaf : (n : Node) (r : ℕ) → has (sides n) r ≡ true → is_random n ≡ false
no_leaf node.Zero r h = refl
no_leaf node.One r h = refl
no_leaf (node.Input i) r h = refl
no_leaf (node.Random i) r h = absurd (false≢true h)
no_leaf (node.And a b) r h = refl
no_leaf (node.Xor a b) r h = refl

and-true : (x : Bool) → (x && true) ≡ x
and-true true = refl
and-true false = refl

one_leaf : (d e x y : Bool) → (e ≡ true → y ≡ x) → ((d && x) || (y && e)) ≡ ((d || e) && x)
one_leaf true true true y h = refl
one_leaf true true false y h = ap (λ z. z && true) (h refl)
one_leaf false true x y h = ap (λ z. z && true) (h refl) ∙ and-true x
one_leaf true false x y h = ap (λ z. x || z) (and_right y false refl) ∙ or-false x
one_leaf false false x y h = and_right y false refl

module _ (nodes : List Node) (start marks : List Mark) (found : List ℕ) (k : ℕ) (before : IsSpread nodes start marks found k) (lt : k < length found) where
  abbrev pub row : ℕ
  row = get_or found k 0

  abbrev seen : ℕ → Bool
  seen = has (take k found)

  abbrev after : ℕ → Bool
  after = has (take k found ++ row ∷ [])

  unseen : seen row ≡ false
  unseen = not_in_front found k 0 before.listed.distinct lt

  pub row_touched : (mark_at marks row).touched ≡ true
  row_touched = sym (before.listed.each row) ∙ has_at found k 0 lt

  pub row_below : row < length nodes
  row_below =
      let l : row < length marks = found_within marks found before.listed row (has_at found k 0 lt) in
      omega (arith, before.counted.rows)

  seen_after : (i : ℕ) → (i ≡ row → ⊥) → after i ≡ seen i
  seen_after i other = has_push (take k found) row i ∙ ap (λ b. seen i || b) (ne_eqb row i (λ e. other (sym e))) ∙ or-false (seen i)

  row_after : after row ≡ true
  row_after = has_push (take k found) row row ∙ or_right (seen row) (row == row) (eq-eqb row row refl)

  abbrev is_side : ℕ → Bool
  is_side r = has (sides (node_at nodes row)) r

  reader : (r : ℕ) → is_side r ≡ true → reads nodes after r row ≡ true
  reader r h = and_from (after row) (is_side r) row_after h

  no_reader : (r : ℕ) → reads nodes seen r row ≡ false
  no_reader r = and_left (seen row) (is_side r) unseen

  other_reader : (r i : ℕ) → (i ≡ row → ⊥) → reads nodes after r i ≡ reads nodes seen r i
  other_reader r i other = ap (λ b. b && has (sides (node_at nodes i)) r) (seen_after i other)

  -- where the row does not read r, it makes no difference to r
  same_readers : (r i : ℕ) → is_side r ≡ false → reads nodes seen r i ≡ reads nodes after r i
  same_readers r i h =
      ⊎_elim
      (λ same. let none : has (sides (node_at nodes i)) r ≡ false = subst (λ q. has (sides (node_at nodes q)) r ≡ false) same h in
      and_right (seen i) _ none ∙ sym (and_right (after i) _ none))
      (λ other. sym (other_reader r i (λ e. other (sym e))))
      (cases_eq row i)

  one_parent : (r : ℕ) → is_side r ≡ true → count_below (length nodes) (reads nodes after r) ≡ count_below (length nodes) (reads nodes seen r) + 1
  one_parent r h = count_more (reads nodes seen r) (reads nodes after r) (length nodes) row row_below (no_reader r) (reader r h) (λ i _ other. other_reader r i other)

  -- a side has fewer parents than there are rows
  pub parents_room : (r : ℕ) → is_side r ≡ true → (mark_at marks r).parents + 1 ≤ length nodes
  parents_room r h = omega (arith, before.counted.parents r, one_parent r h, count_below-le (length nodes) (reads nodes after r))

  more_parents : (r : ℕ) → (mark_at marks r).parents + (if is_side r then 1 else 0) ≡ count_below (length nodes) (reads nodes after r)
  more_parents r =
      ap (λ n. n + (if is_side r then 1 else 0)) (before.counted.parents r)
      ∙ ⊎_elim
      (λ t. ap (λ n. count_below (length nodes) (reads nodes seen r) + n) (cond-true (is_side r) 1 0 t) ∙ sym (one_parent r t))
      (λ f. ap (λ n. count_below (length nodes) (reads nodes seen r) + n) (cond-false (is_side r) 1 0 f) ∙ add-zero _ ∙ count_below-same (length nodes) (reads nodes seen r) (reads nodes after r) (λ i _. same_readers r i f))
      (cases_Bool (is_side r))

  more_mixed : (r : ℕ) → bit_xor (mark_at marks r).mixed (if is_side r then row else 0) ≡ mixed_below (length nodes) (reads nodes after r)
  more_mixed r =
      ap (λ n. bit_xor n (if is_side r then row else 0)) (before.counted.mixed r)
      ∙ ⊎_elim
      (λ t. ap (bit_xor (mixed_below (length nodes) (reads nodes seen r))) (cond-true (is_side r) row 0 t)
      ∙ sym (mixed_more (reads nodes seen r) (reads nodes after r) (length nodes) row row_below (no_reader r) (reader r t) (λ i _ other. other_reader r i other)))
      (λ f. ap (bit_xor (mixed_below (length nodes) (reads nodes seen r))) (cond-false (is_side r) row 0 f) ∙ xor_zero_r _ ∙ mixed_same (length nodes) (reads nodes seen r) (reads nodes after r) (λ i _. same_readers r i f))
      (cases_Bool (is_side r))

  module _ (new : List Mark) (more : List ℕ) (len : length new ≡ length marks) (kept : IsFound new (found ++ more))
      (each : (other : ℕ) → mark_at new other ≡ noted row (node_at nodes row) other (mark_at marks other)) where
    abbrev is_leaf : ℕ → Bool
    is_leaf r = is_random (node_at nodes row) && (row == r)

    front : take (k + 1) (found ++ more) ≡ take k found ++ row ∷ []
    front = take-append-le (k + 1) found more (omega arith) ∙ take_more found k 0 lt

    new_live : (r : ℕ) → (mark_at new r).live ≡ (is_side r || (mark_at marks r).live)
    new_live r = ap (λ (m : Mark). m.live) (each r) ∙ looked_live row (mark_at marks r) (is_side r) (is_leaf r)

    new_root : (r : ℕ) → (mark_at new r).root ≡ (mark_at marks r).root
    new_root r = ap (λ (m : Mark). m.root) (each r) ∙ looked_root row (mark_at marks r) (is_side r) (is_leaf r)

    new_parents : (r : ℕ) → (mark_at new r).parents ≡ (mark_at marks r).parents + (if is_side r then 1 else 0)
    new_parents r = ap (λ (m : Mark). m.parents) (each r) ∙ looked_parents row (mark_at marks r) (is_side r) (is_leaf r)

    parents_side : (r : ℕ) → is_side r ≡ true → 0 < (mark_at new r).parents
    parents_side r t = let e : (mark_at new r).parents ≡ (mark_at marks r).parents + 1 = new_parents r ∙ ap (λ n. (mark_at marks r).parents + n) (cond-true (is_side r) 1 0 t) in omega arith

    parents_other : (r : ℕ) → is_side r ≡ false → (mark_at new r).parents ≡ (mark_at marks r).parents
    parents_other r f = new_parents r ∙ ap (λ n. (mark_at marks r).parents + n) (cond-false (is_side r) 1 0 f) ∙ add-zero _

    counted : IsCounted nodes after new
    counted = record {
      rows = len ∙ before.counted.rows;
      parents = λ r. new_parents r ∙ more_parents r;
      mixed = λ r. ap (λ (m : Mark). m.mixed) (each r) ∙ looked_mixed row (mark_at marks r) (is_side r) (is_leaf r) ∙ more_mixed r;
      rooted = λ r h. new_live r ∙ or_right (is_side r) _ (before.counted.rooted r (sym (new_root r) ∙ h));
      read = λ r h. new_live r ∙ ⊎_elim
          (λ t. or_left (is_side r) _ t)
          (λ f. or_right (is_side r) _ (before.counted.read r (subst (λ n. 0 < n) (parents_other r f) h)))
          (cases_Bool (is_side r));
      from = λ r l u. ⊎_elim
          (λ t. parents_side r t)
          (λ f. subst (λ n. 0 < n) (sym (parents_other r f))
          (before.counted.from r (ap (λ b. b || (mark_at marks r).live) (sym f) ∙ sym (new_live r) ∙ l) (sym (new_root r) ∙ u)))
          (cases_Bool (is_side r));
    }

    pub one_more_looked : IsSpread nodes start new (found ++ more) (k + 1)
    one_more_looked = record {
      within = let n : length (found ++ more) ≡ length found + length more = length-append found more in omega arith;
      listed = kept;
      counted = subst (λ xs. IsCounted nodes (has xs) new) (sym front) counted;
      live = λ r. new_live r ∙ ap (λ b. is_side r || b) (before.live r)
          ∙ sym (ap (λ (m : Mark). m.touched) (each r) ∙ looked_touched row (mark_at marks r) (is_side r) (is_leaf r));
      fresh = λ r.
          ap (λ (m : Mark). m.fresh) (each r)
          ∙ looked_fresh row (mark_at marks r) (is_side r) (is_leaf r) (λ t. and_left (is_random (node_at nodes row)) (row == r) (no_leaf (node_at nodes row) r t))
          ∙ ap (λ b. b || is_leaf r) (before.fresh r)
          ∙ one_leaf (seen r) (row == r) (is_random (node_at nodes r)) (is_random (node_at nodes row)) (λ e. ap (λ q. is_random (node_at nodes q)) (eqb-true row r e))
          ∙ ap (λ b. b && is_random (node_at nodes r)) (sym (has_push (take k found) row r))
          ∙ ap (λ xs. has xs r && is_random (node_at nodes r)) (sym front);
      root = λ r. new_root r ∙ before.root r;
      cut = λ r. ap (λ (m : Mark). m.cut) (each r) ∙ looked_cut row (mark_at marks r) (is_side r) (is_leaf r) ∙ before.cut r;
      queued = λ r. ap (λ (m : Mark). m.queued) (each r) ∙ looked_queued row (mark_at marks r) (is_side r) (is_leaf r) ∙ before.queued r;
    }
