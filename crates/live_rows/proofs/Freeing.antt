-- A row that is the parent of its sides no longer, and the counts of parents.
use Rattle.std.proofs.Common.{◌≡◌, ◌⊎◌, ℕ, ◌+◌, ◌-◌, ◌<◌, ◌≤◌, Bool, true, false, not, ◌&&◌, ◌||◌, ◌==◌, nat_lt, List, [], ◌∷◌, ◌++◌, length, bit_xor, refl, sym, ap, ◌∙◌, subst, arith, ⊎_elim}
use Rattle.std.proofs.lemmas.Bool.{cases_Bool, cases_eq, and_left, and_right, and_from, or_cases, or_from, or_left, or_right, eq-eqb, ne_eqb, lt-ltb, ltb-true, both_ways}
use Rattle.expr_table.specs.declared.node.Node.{Node}
use Rattle.expr_table.specs.declared.node.Node.TheVariants as node
use Rattle.expr_table.specs.declared.node.Row.{Row}
use Rattle.expr_table.specs.Table.{node_at, sides, has}
use Rattle.once_random.specs.Numbers.{count_below}
use Rattle.once_random.proofs.Facts.{count_below-same, count_some, has_first}
use Rattle.live_rows.specs.declared.mark.Mark.{Mark}
use Rattle.live_rows.specs.Lists.{Held, are_distinct}
use Rattle.live_rows.specs.Losing.{CountsAs, without_parent, freed, IsLosing, IsRead, IsTaken, KeepsHeld, Loses, is_counting}
use Rattle.live_rows.specs.Marks.{mark_at, is_lone}
use Rattle.once_random.specs.Live.{AreLower}
use Rattle.live_rows.specs.Spread.{IsCounted, reads, offered}
use Rattle.live_rows.proofs.Counts.{count_more, mixed_less, mixed_same}
use Rattle.live_rows.proofs.Numbers.{has_push, distinct_pop, or_turned}
use Rattle.live_rows.proofs.Dropping.{offered-field}

-- the same rows read each row
pub counted_same : (nodes : List Node) (counting rest : ℕ → Bool) (marks : List Mark) → ((r p : ℕ) → reads nodes counting r p ≡ reads nodes rest r p) → IsCounted nodes counting marks → IsCounted nodes rest marks
counted_same nodes counting rest marks same counted = record {
  rows = counted.rows;
  parents = λ r. counted.parents r ∙ count_below-same (length nodes) (reads nodes counting r) (reads nodes rest r) (λ p _. same r p);
  mixed = λ r. counted.mixed r ∙ mixed_same (length nodes) (reads nodes counting r) (reads nodes rest r) (λ p _. same r p);
  rooted = counted.rooted;
  read = counted.read;
  from = counted.from;
}

-- What a mark says of counts and of being live stays.
pub counted_kept : (nodes : List Node) (counting : ℕ → Bool) (old new : List Mark) → length new ≡ length old
    → ((r : ℕ) → (mark_at new r).parents ≡ (mark_at old r).parents) → ((r : ℕ) → (mark_at new r).mixed ≡ (mark_at old r).mixed)
    → ((r : ℕ) → (mark_at new r).live ≡ (mark_at old r).live) → ((r : ℕ) → (mark_at new r).root ≡ (mark_at old r).root)
    → IsCounted nodes counting old → IsCounted nodes counting new
counted_kept nodes counting old new len parents mixed live root counted = record {
  rows = len ∙ counted.rows;
  parents = λ r. parents r ∙ counted.parents r;
  mixed = λ r. mixed r ∙ counted.mixed r;
  rooted = λ r h. live r ∙ counted.rooted r (sym (root r) ∙ h);
  read = λ r h. live r ∙ counted.read r (subst (λ n. 0 < n) (parents r) h);
  from = λ r l h. subst (λ n. 0 < n) (sym (parents r)) (counted.from r (sym (live r) ∙ l) (sym (root r) ∙ h));
}

-- The row e counts as a parent no longer, and its sides are freed.
module _ (nodes : List Node) (counting rest : ℕ → Bool) (e : ℕ) (within : e < length nodes) (before : counting e ≡ true) (after : rest e ≡ false)
    (others : (p : ℕ) → (p ≡ e → ⊥) → rest p ≡ counting p) (old new : List Mark) (len : length new ≡ length old)
    (each : (r : ℕ) → CountsAs (mark_at new r) (freed (has (sides (node_at nodes e)) r) e (mark_at old r))) (counted : IsCounted nodes counting old) where
  abbrev was : ℕ → Mark
  was r = mark_at old r

  abbrev now : ℕ → Mark
  now r = without_parent e (mark_at old r)

  module _ (r : ℕ) (side : has (sides (node_at nodes e)) r ≡ true) where
    side_is : freed (has (sides (node_at nodes e)) r) e (was r) ≡ offered (is_lone (now r)) (now r)
    side_is = ap (λ b. freed b e (was r)) side

    side_parents : (mark_at new r).parents ≡ (was r).parents - 1
    side_parents = (each r).parents ∙ ap (λ (m : Mark). m.parents) side_is ∙ offered-field (λ (m : Mark). m.parents) (λ m. refl) (is_lone (now r)) (now r)

    side_mixed : (mark_at new r).mixed ≡ bit_xor (was r).mixed e
    side_mixed = (each r).mixed ∙ ap (λ (m : Mark). m.mixed) side_is ∙ offered-field (λ (m : Mark). m.mixed) (λ m. refl) (is_lone (now r)) (now r)

    side_root : (mark_at new r).root ≡ (was r).root
    side_root = (each r).root ∙ ap (λ (m : Mark). m.root) side_is ∙ offered-field (λ (m : Mark). m.root) (λ m. refl) (is_lone (now r)) (now r)

    side_live : (mark_at new r).live ≡ ((was r).root || nat_lt 0 ((was r).parents - 1))
    side_live = (each r).live ∙ ap (λ (m : Mark). m.live) side_is ∙ offered-field (λ (m : Mark). m.live) (λ m. refl) (is_lone (now r)) (now r)

    fails : reads nodes rest r e ≡ false
    fails = and_left (rest e) (has (sides (node_at nodes e)) r) after

    passes : reads nodes counting r e ≡ true
    passes = and_from (counting e) (has (sides (node_at nodes e)) r) before side

    same_else : (p : ℕ) → p < length nodes → (p ≡ e → ⊥) → reads nodes counting r p ≡ reads nodes rest r p
    same_else p l other = ap (λ b. b && has (sides (node_at nodes p)) r) (sym (others p other))

    one_fewer : (was r).parents ≡ count_below (length nodes) (reads nodes rest r) + 1
    one_fewer = counted.parents r ∙ count_more (reads nodes rest r) (reads nodes counting r) (length nodes) e within fails passes same_else

  module _ (r : ℕ) (none : has (sides (node_at nodes e)) r ≡ false) where
    rest_is : CountsAs (mark_at new r) (was r)
    rest_is = subst (λ b. CountsAs (mark_at new r) (freed b e (was r))) none (each r)

    same_all : (p : ℕ) → p < length nodes → reads nodes counting r p ≡ reads nodes rest r p
    same_all p l =
        ⊎_elim
        (λ is. subst (λ q. reads nodes counting r q ≡ reads nodes rest r q) (sym is) (and_right (counting e) _ none ∙ sym (and_right (rest e) _ none)))
        (λ other. ap (λ b. b && has (sides (node_at nodes p)) r) (sym (others p other)))
        (cases_eq p e)

  pub freed_counted : IsCounted nodes rest new
  freed_counted = record {
    rows = len ∙ counted.rows;
    parents = λ r. ⊎_elim
        (λ t. side_parents r t ∙ ap (λ n. n - 1) (one_fewer r t) ∙ minus_one _)
        (λ f. (rest_is r f).parents ∙ counted.parents r ∙ count_below-same (length nodes) (reads nodes counting r) (reads nodes rest r) (same_all r f))
        (cases_Bool (has (sides (node_at nodes e)) r));
    mixed = λ r. ⊎_elim
        (λ t. side_mixed r t ∙ ap (λ n. bit_xor n e) (counted.mixed r)
        ∙ sym (mixed_less (reads nodes rest r) (reads nodes counting r) (length nodes) e within (fails r t) (passes r t) (same_else r t)))
        (λ f. (rest_is r f).mixed ∙ counted.mixed r ∙ mixed_same (length nodes) (reads nodes counting r) (reads nodes rest r) (same_all r f))
        (cases_Bool (has (sides (node_at nodes e)) r));
    rooted = λ r h. ⊎_elim
        (λ t. side_live r t ∙ or_left (was r).root _ (sym (side_root r t) ∙ h))
        (λ f. (rest_is r f).live ∙ counted.rooted r (sym ((rest_is r f).root) ∙ h))
        (cases_Bool (has (sides (node_at nodes e)) r));
    read = λ r h. ⊎_elim
        (λ t. side_live r t ∙ or_right (was r).root _ (lt-ltb 0 ((was r).parents - 1) (subst (λ n. 0 < n) (side_parents r t) h)))
        (λ f. (rest_is r f).live ∙ counted.read r (subst (λ n. 0 < n) ((rest_is r f).parents) h))
        (cases_Bool (has (sides (node_at nodes e)) r));
    from = λ r l h. ⊎_elim
        (λ t. subst (λ n. 0 < n) (sym (side_parents r t))
        (⊎_elim (λ root. absurd (both_ways (was r).root (sym (side_root r t) ∙ h) root)) (λ lt. ltb-true 0 ((was r).parents - 1) lt)
        (or_cases (was r).root (nat_lt 0 ((was r).parents - 1)) (sym (side_live r t) ∙ l))))
        (λ f. subst (λ n. 0 < n) (sym ((rest_is r f).parents))
        (counted.from r (sym ((rest_is r f).live) ∙ l) (sym ((rest_is r f).root) ∙ h)))
        (cases_Bool (has (sides (node_at nodes e)) r));
  }
    where
      minus_one : (n : ℕ) → (n + 1) - 1 ≡ n
      minus_one n = omega arith

-- a node that is no gate has no sides
pub no_sides : (n : Node) → ((a b : Row) → n ≡ node.And a b → ⊥) → ((a b : Row) → n ≡ node.Xor a b → ⊥) → sides n ≡ []
no_sides node.Zero x y = refl
no_sides node.One x y = refl
no_sides (node.Input i) x y = refl
no_sides (node.Random i) x y = refl
no_sides (node.And a b) x y = absurd (x a b refl)
no_sides (node.Xor a b) x y = absurd (y a b refl)

pub gate_sides : (n : Node) (a b : Row) → (n ≡ node.And a b) ⊎ (n ≡ node.Xor a b) → sides n ≡ a.0 ∷ b.0 ∷ []
gate_sides n a b is = ⊎_elim (λ e. ap sides e) (λ e. ap sides e) is

-- a side of a row that counts as its parent is read
pub side_read : (nodes : List Node) → AreLower nodes → (counting : ℕ → Bool) (marks : List Mark) → IsCounted nodes counting marks → (row side : ℕ) → row < length nodes → counting row ≡ true
    → has (sides (node_at nodes row)) side ≡ true → IsRead marks side
side_read nodes lower counting marks counted row side within counts h =
    let low = lower row side h in
    let rows = counted.rows in
    let some : 1 ≤ count_below (length nodes) (reads nodes counting side) = count_some (reads nodes counting side) (length nodes) row within (and_from _ _ counts h) in
    let more : 0 < (mark_at marks side).parents = subst (λ n. 0 < n) (sym (counted.parents side)) some in
    record { within = omega arith; live = counted.read side more; some = more }

-- marks that are equal say the same
counts_as : (mark other : Mark) → mark ≡ other → CountsAs mark other
counts_as mark other is = record {
  parents = ap (λ (m : Mark). m.parents) is;
  mixed = ap (λ (m : Mark). m.mixed) is;
  live = ap (λ (m : Mark). m.live) is;
  root = ap (λ (m : Mark). m.root) is;
}

-- A row that was lost is taken from the list, and no longer counts as a parent.
module _ (nodes : List Node) (marks : List Mark) (lost : List ℕ) (row : ℕ) (taken : IsTaken nodes marks lost row) where
  has_else : (p : ℕ) → (p ≡ row → ⊥) → has (row ∷ lost) p ≡ has lost p
  has_else p other = ap (λ b. b || has lost p) (ne_eqb row p (λ e. other (sym e)))

  was_same : ((r : ℕ) → reads nodes (is_counting marks (row ∷ lost)) r row ≡ reads nodes (is_counting marks lost) r row) → IsCounted nodes (is_counting marks lost) marks
  was_same same =
      counted_same nodes (is_counting marks (row ∷ lost)) (is_counting marks lost) marks
      (λ r p. ⊎_elim
      (λ is. subst (λ q. reads nodes (is_counting marks (row ∷ lost)) r q ≡ reads nodes (is_counting marks lost) r q) (sym is) (same r))
      (λ other. ap (λ b. (((mark_at marks p).live || b) && not (mark_at marks p).cut) && has (sides (node_at nodes p)) r) (has_else p other))
      (cases_eq p row))
      taken.counted

  pub taken_cut : (mark_at marks row).cut ≡ true → IsCounted nodes (is_counting marks lost) marks
  taken_cut cut =
      let never : not (mark_at marks row).cut ≡ false = ap not cut in
      was_same (λ r.
      and_left (is_counting marks (row ∷ lost) row) _ (and_right ((mark_at marks row).live || has (row ∷ lost) row) _ never)
      ∙ sym (and_left (is_counting marks lost row) _ (and_right ((mark_at marks row).live || has lost row) _ never)))

  pub taken_none : sides (node_at nodes row) ≡ [] → IsCounted nodes (is_counting marks lost) marks
  taken_none none =
      was_same (λ r.
      let no : has (sides (node_at nodes row)) r ≡ false = ap (λ l. has l r) none in
      and_right (is_counting marks (row ∷ lost) row) _ no ∙ sym (and_right (is_counting marks lost row) _ no))

  module _ (uncut : (mark_at marks row).cut ≡ false) where
    counts : is_counting marks (row ∷ lost) row ≡ true
    counts = and_from ((mark_at marks row).live || has (row ∷ lost) row) _ (or_right (mark_at marks row).live _ (has_first row lost)) (ap not uncut)

    pub taken_read : AreLower nodes → (side : ℕ) → has (sides (node_at nodes row)) side ≡ true → IsRead marks side
    taken_read lower side h = side_read nodes lower (is_counting marks (row ∷ lost)) marks taken.counted row side (subst (λ n. row < n) taken.counted.rows taken.within) counts h

    pub taken_freed : (new : List Mark) (after alone alone' : List ℕ) → ((r : ℕ) → mark_at new r ≡ freed (has (sides (node_at nodes row)) r) row (mark_at marks r))
        → Loses marks alone new alone' → KeepsHeld marks lost new after → IsCounted nodes (is_counting new after) new
    taken_freed new after alone alone' each loses held =
        freed_counted nodes (is_counting marks (row ∷ lost)) (is_counting new after) row (subst (λ n. row < n) taken.counted.rows taken.within) counts
        (and_left ((mark_at new row).live || has after row) _ (held.each row ∙ or_from (mark_at marks row).live (has lost row) taken.gone taken.taken))
        (λ p other.
        ap (λ b. b && not (mark_at new p).cut) (held.each p)
        ∙ ap (λ b. ((mark_at marks p).live || has lost p) && not b) (loses.cut p)
        ∙ ap (λ b. ((mark_at marks p).live || b) && not (mark_at marks p).cut) (sym (has_else p other)))
        marks new loses.rows (λ r. counts_as (mark_at new r) _ (each r)) taken.counted

-- the last row lost is taken from the list
module _ (marks : List Mark) (alone lost lost' : Held) (row : ℕ) (losing : IsLosing marks alone lost) (is : lost.numbers ≡ lost'.numbers ++ row ∷ []) where
  was_lost : (r : ℕ) → has lost.numbers r ≡ (has lost'.numbers r || (row == r))
  was_lost r = ap (λ l. has l r) is ∙ has_push lost'.numbers row r

  row_lost : has lost.numbers row ≡ true
  row_lost = was_lost row ∙ or_right (has lost'.numbers row) (row == row) (eq-eqb row row refl)

  apart : (are_distinct lost'.numbers ≡ true) × (has lost'.numbers row ≡ false)
  apart = distinct_pop lost'.numbers row (subst (λ l. are_distinct l ≡ true) is losing.distinct)

  pub pop_losing : lost'.room ≡ lost.room → IsLosing marks alone lost'
  pop_losing room = record {
    queue = losing.queue;
    alone_room = losing.alone_room;
    lost_room = room ∙ losing.lost_room;
    distinct = apart.0;
    within = λ r h. losing.within r (was_lost r ∙ or_left (has lost'.numbers r) (row == r) h);
    gone = λ r h. losing.gone r (was_lost r ∙ or_left (has lost'.numbers r) (row == r) h);
  }

  pub pop_taken : (nodes : List Node) → IsCounted nodes (is_counting marks lost.numbers) marks → IsTaken nodes marks lost'.numbers row
  pop_taken nodes counted = record {
    within = losing.within row row_lost;
    gone = losing.gone row row_lost;
    taken = apart.1;
    counted = counted_same nodes (is_counting marks lost.numbers) (is_counting marks (row ∷ lost'.numbers)) marks
        (λ r p. ap (λ b. (((mark_at marks p).live || b) && not (mark_at marks p).cut) && has (sides (node_at nodes p)) r)
        (was_lost p ∙ or_turned (has lost'.numbers p) (row == p)))
        counted;
  }
