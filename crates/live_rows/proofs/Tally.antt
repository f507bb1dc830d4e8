-- Leaves counted one after another, and the counts taken back.
use Rattle.std.proofs.Common.{◌≡◌, ℕ, ◌+◌, ◌<◌, ◌≤◌, ◌==◌, nat_le, nat_lt, Bool, true, false, ◌&&◌, ◌||◌, List, [], ◌∷◌, ◌++◌, Option, None, Some, IfSome, All, length, get_or, set, take, slice_index_or, refl, sym, ap, ◌∙◌, subst, arith, ⊎_elim}
use Rattle.std.proofs.lemmas.Bool.{cases_Bool, cases_eq, cases_lt, and_from, and_left, and_right, and_parts, or_right, eq-eqb, eqb-true, ne_eqb, lt-ltb, ltb-true, ltb-false, le-leb, both_ways, true_from_ne_false}
use Rattle.std.proofs.lemmas.List.{take_more, take_all, get_or-set_same, get_or-set_other, get_or_past}
use Rattle.expr_table.specs.declared.node.Node.{Node}
use Rattle.expr_table.specs.declared.node.Node.TheVariants as node
use Rattle.expr_table.specs.Table.{node_at, has}
use Rattle.once_random.specs.Groups.{is_group, is_leaf_of, live_leaves_of, are_within}
use Rattle.once_random.specs.Live.{is_live}
use Rattle.once_random.specs.Numbers.{all_below, count_below}
use Rattle.once_random.proofs.Facts.{all_below-at, all_below-from, count_below-le, count_below-same, count_none, same_tests}
use Rattle.live_rows.specs.declared.mark.Mark.{Mark}
use Rattle.live_rows.specs.Lists.{Held, none_held, are_distinct}
use Rattle.live_rows.specs.Marks.{mark_at}
use Rattle.live_rows.specs.Shown.{Shows}
use Rattle.live_rows.specs.State.{IsFound}
use Rattle.live_rows.specs.Tally.{IsTally, is_marked_leaf}
use Rattle.live_rows.proofs.Counts.{count_more}
use Rattle.live_rows.proofs.Marks.{found_within}
use Rattle.live_rows.proofs.Numbers.{has_push, has_at, not_in_front, or-false, distinct_push, distinct_pop, room_left}

-- a list with these fields
pub held_is : (h : Held) (room : ℕ) → h.room ≡ room → h.numbers ≡ [] → h ≡ none_held room
held_is h room is none = ap (λ r. record { room = r; numbers = h.numbers }) is ∙ ap (λ xs. record { room = room; numbers = xs }) none

module _ (leaves counted : List ℕ) (tally : IsTally leaves counted) where
  -- the groups counted have their counts
  pub tally_within : (g : ℕ) → has counted g ≡ true → g < length leaves
  tally_within g h =
      ⊎_elim (λ l. l)
      (λ past. let some : 0 < get_or leaves g 0 = ltb-true 0 (get_or leaves g 0) (sym (tally.each g) ∙ h) in
      let none : get_or leaves g 0 ≡ 0 = get_or_past leaves g 0 past in absurd (omega arith))
      (cases_lt g (length leaves))

  module _ (g : ℕ) (within : g < length leaves) where
    new : get_or leaves g 0 ≡ 0 → has counted g ≡ false
    new is = tally.each g ∙ ap (nat_lt 0) is

    pub tally_room : get_or leaves g 0 ≡ 0 → length counted < length leaves
    tally_room is = room_left (length leaves) counted g tally.distinct tally_within within (new is)

    written_at : (v r : ℕ) → (g ≡ r → ⊥) → get_or (set leaves g v) r 0 ≡ get_or leaves r 0
    written_at v r other = get_or-set_other leaves g r v 0 (λ e. other (sym e))

    -- a first leaf of a group
    pub tally_more : get_or leaves g 0 ≡ 0 → IsTally (set leaves g (get_or leaves g 0 + 1)) (counted ++ g ∷ [])
    tally_more is = record {
      distinct = distinct_push counted g tally.distinct (new is);
      each = λ r. has_push counted g r ∙ ⊎_elim
          (λ same. or_right (has counted r) (g == r) (eq-eqb g r same)
          ∙ sym (lt-ltb 0 _ (subst (λ n. 0 < n) (sym (subst (λ q. get_or (set leaves g (get_or leaves g 0 + 1)) q 0 ≡ get_or leaves g 0 + 1) same (get_or-set_same leaves g (get_or leaves g 0 + 1) 0 within))) (omega arith))))
          (λ other. ap (λ b. has counted r || b) (ne_eqb g r other) ∙ or-false (has counted r) ∙ tally.each r ∙ ap (nat_lt 0) (sym (written_at (get_or leaves g 0 + 1) r other)))
          (cases_eq g r);
    }

    -- a further leaf of a group
    pub tally_kept : (get_or leaves g 0 ≡ 0 → ⊥) → IsTally (set leaves g (get_or leaves g 0 + 1)) counted
    tally_kept some = record {
      distinct = tally.distinct;
      each = λ r. tally.each r ∙ ⊎_elim
          (λ same. subst (λ q. nat_lt 0 (get_or leaves q 0) ≡ nat_lt 0 (get_or (set leaves g (get_or leaves g 0 + 1)) q 0)) same
          (lt-ltb 0 (get_or leaves g 0) (omega (arith, some))
          ∙ sym (lt-ltb 0 _ (subst (λ n. 0 < n) (sym (get_or-set_same leaves g (get_or leaves g 0 + 1) 0 within)) (omega arith)))))
          (λ other. ap (nat_lt 0) (sym (written_at (get_or leaves g 0 + 1) r other)))
          (cases_eq g r);
    }

    -- the count of a group that was taken from the list is taken back
    pub tally_less : (rest : List ℕ) → counted ≡ rest ++ g ∷ [] → IsTally (set leaves g 0) rest
    tally_less rest is =
        let parts = distinct_pop rest g (subst (λ xs. are_distinct xs ≡ true) is tally.distinct) in
        record {
          distinct = parts.0;
          each = λ r. ⊎_elim
              (λ same. subst (λ q. has rest q ≡ nat_lt 0 (get_or (set leaves g 0) q 0)) same
              (parts.1 ∙ sym (ap (nat_lt 0) (get_or-set_same leaves g 0 0 within))))
              (λ other. sym (ap (λ xs. has xs r) is ∙ has_push rest g r ∙ ap (λ b. has rest r || b) (ne_eqb g r other) ∙ or-false (has rest r))
              ∙ tally.each r ∙ ap (nat_lt 0) (sym (written_at 0 r other)))
              (cases_eq g r);
        }

-- where no group is counted, each count is 0
pub tally_none : (leaves counted : List ℕ) → IsTally leaves counted → counted ≡ [] → (g : ℕ) → get_or leaves g 0 ≡ 0
tally_none leaves counted tally none g =
    let low : get_or leaves g 0 ≤ 0 = ltb-false 0 (get_or leaves g 0) (sym (tally.each g) ∙ ap (λ xs. has xs g) none) in
    omega arith

all_same : (n : ℕ) (f g : ℕ → Bool) → ((i : ℕ) → i < n → f i ≡ g i) → all_below n f ≡ all_below n g
all_same n f g h =
    same_tests (all_below n f) (all_below n g)
    (λ t. all_below-from n g (λ i l. sym (h i l) ∙ all_below-at n f t i l))
    (λ t. all_below-from n f (λ i l. h i l ∙ all_below-at n g t i l))

-- one count is compared and taken back
pub one_taken : (leaves : List ℕ) (bound g : ℕ) → g < length leaves → (few : Bool)
    → ((few && nat_le (get_or leaves g 0) bound) && all_below (length leaves) (λ r. nat_le (get_or (set leaves g 0) r 0) bound))
    ≡ (few && all_below (length leaves) (λ r. nat_le (get_or leaves r 0) bound))
one_taken leaves bound g within few =
    same_tests _ _
    (λ t. let parts = and_parts (few && nat_le (get_or leaves g 0) bound) (all_below (length leaves) (λ r. nat_le (get_or (set leaves g 0) r 0) bound)) t in
    let more = and_parts few (nat_le (get_or leaves g 0) bound) parts.0 in
    and_from few _ more.0 (all_below-from (length leaves) (λ r. nat_le (get_or leaves r 0) bound) (λ r l.
    ⊎_elim (λ same. subst (λ q. nat_le (get_or leaves q 0) bound ≡ true) same more.1)
    (λ other. ap (λ n. nat_le n bound) (sym (get_or-set_other leaves g r 0 0 (λ e. other (sym e)))) ∙ all_below-at (length leaves) (λ r. nat_le (get_or (set leaves g 0) r 0) bound) parts.1 r l)
    (cases_eq g r))))
    (λ t. let parts = and_parts few (all_below (length leaves) (λ r. nat_le (get_or leaves r 0) bound)) t in
    and_from (few && nat_le (get_or leaves g 0) bound) _
    (and_from few _ parts.0 (all_below-at (length leaves) (λ r. nat_le (get_or leaves r 0) bound) parts.1 g within))
    (all_below-from (length leaves) (λ r. nat_le (get_or (set leaves g 0) r 0) bound) (λ r l.
    ⊎_elim (λ same. subst (λ q. nat_le (get_or (set leaves g 0) q 0) bound ≡ true) same
    (ap (λ n. nat_le n bound) (get_or-set_same leaves g 0 0 within) ∙ le-leb 0 bound (omega arith)))
    (λ other. ap (λ n. nat_le n bound) (get_or-set_other leaves g r 0 0 (λ e. other (sym e))) ∙ all_below-at (length leaves) (λ r. nat_le (get_or leaves r 0) bound) parts.1 r l)
    (cases_eq g r))))

-- counts that are all 0 are within each bound
pub none_over : (leaves : List ℕ) (bound : ℕ) → ((g : ℕ) → get_or leaves g 0 ≡ 0) → all_below (length leaves) (λ r. nat_le (get_or leaves r 0) bound) ≡ true
none_over leaves bound none = all_below-from (length leaves) (λ r. nat_le (get_or leaves r 0) bound) (λ r l. ap (λ n. nat_le n bound) (none r) ∙ le-leb 0 bound (omega arith))

module _ (nodes : List Node) (groups : List (Option ℕ)) (marks : List Mark) (found : List ℕ) where
  -- the row is one of the first k found and counts for the group
  abbrev pub is_counted : ℕ → ℕ → ℕ → Bool
  is_counted k group row = has (take k found) row && is_marked_leaf nodes groups marks group row

  abbrev pub Counted : List ℕ → ℕ → Type 0
  Counted leaves k = (group : ℕ) → get_or leaves group 0 ≡ count_below (length nodes) (is_counted k group)

  pub none_counted : (leaves : List ℕ) → ((g : ℕ) → get_or leaves g 0 ≡ 0) → Counted leaves 0
  none_counted leaves none g = none g ∙ sym (count_none (is_counted 0 g) (length nodes) (λ i l. refl))

  module _ (rows : length marks ≡ length nodes) (listed : IsFound marks found) (k : ℕ) (lt : k < length found) where
    abbrev pub row : ℕ
    row = get_or found k 0

    pub row_within : row < length marks
    row_within = found_within marks found listed row (has_at found k 0 lt)

    seen : (r : ℕ) → has (take (k + 1) found) r ≡ (has (take k found) r || (row == r))
    seen r = ap (λ xs. has xs r) (take_more found k 0 lt) ∙ has_push (take k found) row r

    unseen : has (take k found) row ≡ false
    unseen = not_in_front found k 0 listed.distinct lt

    other_seen : (g r : ℕ) → (r ≡ row → ⊥) → is_counted (k + 1) g r ≡ is_counted k g r
    other_seen g r other = ap (λ b. b && is_marked_leaf nodes groups marks g r) (seen r ∙ ap (λ b. has (take k found) r || b) (ne_eqb row r (λ e. other (sym e))) ∙ or-false (has (take k found) r))

    -- the row counts for the group
    one_leaf : (g : ℕ) → is_marked_leaf nodes groups marks g row ≡ true → count_below (length nodes) (is_counted (k + 1) g) ≡ count_below (length nodes) (is_counted k g) + 1
    one_leaf g t =
        let below : row < length nodes = omega (arith, row_within) in
        count_more (is_counted k g) (is_counted (k + 1) g) (length nodes) row below
        (and_left (has (take k found) row) _ unseen)
        (and_from (has (take (k + 1) found) row) _ (seen row ∙ or_right (has (take k found) row) (row == row) (eq-eqb row row refl)) t)
        (λ i _ other. other_seen g i other)

    -- the row does not count for the group
    no_leaf : (g : ℕ) → is_marked_leaf nodes groups marks g row ≡ false → count_below (length nodes) (is_counted (k + 1) g) ≡ count_below (length nodes) (is_counted k g)
    no_leaf g f =
        count_below-same (length nodes) (is_counted (k + 1) g) (is_counted k g) (λ i _.
        ⊎_elim (λ same. subst (λ q. is_counted (k + 1) g q ≡ is_counted k g q) same (and_right (has (take (k + 1) found) row) _ f ∙ sym (and_right (has (take k found) row) _ f)))
        (λ other. other_seen g i (λ e. other (sym e)))
        (cases_eq row i))

    -- a group of which the row is a leaf has room for one more
    pub leaf_room : (leaves : List ℕ) → Counted leaves k → (g : ℕ) → is_marked_leaf nodes groups marks g row ≡ true → get_or leaves g 0 + 1 ≤ length nodes
    leaf_room leaves before g t = omega (arith, before g, one_leaf g t, count_below-le (length nodes) (is_counted (k + 1) g))

    -- it counts for its group alone
    pub leaf_counted : (leaves : List ℕ) → Counted leaves k → (group : ℕ) → group < length leaves → ((g : ℕ) → is_marked_leaf nodes groups marks g row ≡ (group == g)) → Counted (set leaves group (get_or leaves group 0 + 1)) (k + 1)
    leaf_counted leaves before group within is g =
        ⊎_elim
        (λ same. subst (λ q. get_or (set leaves group (get_or leaves group 0 + 1)) q 0 ≡ count_below (length nodes) (is_counted (k + 1) q)) same
        (get_or-set_same leaves group (get_or leaves group 0 + 1) 0 within ∙ ap (λ n. n + 1) (before group) ∙ sym (one_leaf group (is group ∙ eq-eqb group group refl))))
        (λ other. get_or-set_other leaves group g (get_or leaves group 0 + 1) 0 (λ e. other (sym e)) ∙ before g ∙ sym (no_leaf g (is g ∙ ne_eqb group g other)))
        (cases_eq group g)

    -- it counts for no group
    pub none_more : (leaves : List ℕ) → Counted leaves k → ((g : ℕ) → is_marked_leaf nodes groups marks g row ≡ false) → Counted leaves (k + 1)
    none_more leaves before none g = before g ∙ sym (no_leaf g (none g))

  -- the rows found are all that are live
  pub all_counted : IsFound marks found → (leaves : List ℕ) (k : ℕ) → length found ≤ k → Counted leaves k → (g : ℕ) → get_or leaves g 0 ≡ count_below (length nodes) (is_marked_leaf nodes groups marks g)
  all_counted listed leaves k all counts g =
      counts g ∙ count_below-same (length nodes) (is_counted k g) (is_marked_leaf nodes groups marks g) (λ r _.
      ap (λ xs. has xs r && is_marked_leaf nodes groups marks g r) (take_all k found all)
      ∙ ⊎_elim
      (λ t. ap (λ b. b && is_marked_leaf nodes groups marks g r) (listed.each r ∙ touched r t))
      (λ f. and_right (has found r) _ (and_left (mark_at marks r).live _ f) ∙ sym (and_left (mark_at marks r).live _ f))
      (cases_Bool (mark_at marks r).live))
    where
      touched : (r : ℕ) → (mark_at marks r).live ≡ true → (mark_at marks r).touched ≡ true
      touched r t = true_from_ne_false (mark_at marks r).touched (λ u. both_ways (mark_at marks r).live (ap (λ (m : Mark). m.live) (listed.empty r u)) t)

-- the group of a leaf is one of the groups
pub group_within : (groups : List (Option ℕ)) → All (λ group. IfSome group (λ secret. secret < length groups)) groups
    → (n : Node) (group : ℕ) → is_leaf_of groups group n ≡ true → group < length groups
group_within groups all node.Zero group h = absurd (both_ways false refl h)
group_within groups all node.One group h = absurd (both_ways false refl h)
group_within groups all (node.Input i) group h =
    ⊎_elim
    (λ l. one (slice_index_or groups i None) (all i None l) h)
    (λ past. absurd (both_ways (is_group group (slice_index_or groups i None)) (ap (is_group group) (get_or_past groups i None past)) h))
    (cases_lt i (length groups))
  where
    one : (o : Option ℕ) → IfSome o (λ secret. secret < length groups) → is_group group o ≡ true → group < length groups
    one None w t = absurd (both_ways false refl t)
    one (Some s) w t = subst (λ k. k < length groups) (eqb-true s group t) w
group_within groups all (node.Random i) group h = absurd (both_ways false refl h)
group_within groups all (node.And a b) group h = absurd (both_ways false refl h)
group_within groups all (node.Xor a b) group h = absurd (both_ways false refl h)

all_more : (m n : ℕ) (test : ℕ → Bool) → m ≤ n → ((i : ℕ) → m ≤ i → test i ≡ true) → all_below n test ≡ all_below m test
all_more m n test le rest =
    same_tests (all_below n test) (all_below m test)
    (λ t. all_below-from m test (λ i l. all_below-at n test t i (omega arith)))
    (λ t. all_below-from n test (λ i l. ⊎_elim (λ k. all_below-at m test t i k) (rest i) (cases_lt i m)))

-- the counts decide
pub counts_decide : (nodes : List Node) (groups : List (Option ℕ)) (roots cuts : List ℕ) (marks : List Mark) (leaves : List ℕ) (bound : ℕ) → Shows nodes roots cuts marks
    → All (λ group. IfSome group (λ secret. secret < length groups)) groups → length groups ≤ length leaves
    → ((g : ℕ) → get_or leaves g 0 ≡ count_below (length nodes) (is_marked_leaf nodes groups marks g))
    → all_below (length leaves) (λ g. nat_le (get_or leaves g 0) bound) ≡ are_within nodes groups roots cuts bound
unfolding are_within
counts_decide nodes groups roots cuts marks leaves bound shows all fits counts =
    all_more (length groups) (length leaves) (λ g. nat_le (get_or leaves g 0) bound) fits (λ g past.
    ap (λ n. nat_le n bound) (counts g ∙ count_none (is_marked_leaf nodes groups marks g) (length nodes) (λ r _.
    and_right (mark_at marks r).live _ (no_leaf g past r)))
    ∙ le-leb 0 bound (omega arith))
    ∙ all_same (length groups) (λ g. nat_le (get_or leaves g 0) bound) (λ g. nat_le (live_leaves_of nodes groups roots cuts g) bound) (λ g _.
    ap (λ n. nat_le n bound) (counts g ∙ count_below-same (length nodes) (is_marked_leaf nodes groups marks g) (λ r. is_live nodes roots cuts r && is_leaf_of groups g (node_at nodes r))
    (λ r _. ap (λ b. b && is_leaf_of groups g (node_at nodes r)) (shows.live r))))
  where
    no_leaf : (g : ℕ) → length groups ≤ g → (r : ℕ) → is_leaf_of groups g (node_at nodes r) ≡ false
    no_leaf g past r =
        ⊎_elim (λ t. let l = group_within groups all (node_at nodes r) g t in absurd (omega arith)) (λ f. f) (cases_Bool (is_leaf_of groups g (node_at nodes r)))

-- the group at the end of the list has a count
pub last_within : (leaves counted : List ℕ) → IsTally leaves counted → (rest : List ℕ) (g : ℕ) → counted ≡ rest ++ g ∷ [] → g < length leaves
last_within leaves counted tally rest g is = tally_within leaves counted tally g (ap (λ xs. has xs g) is ∙ has_push rest g g ∙ or_right (has rest g) (g == g) (eq-eqb g g refl))

and_all : (b c : Bool) → c ≡ true → (b && c) ≡ b
and_all true c h = h
and_all false c h = refl

-- once no group is counted, what is left is within the bound
pub few_left : (few : Bool) (leaves counted : List ℕ) (bound : ℕ) → IsTally leaves counted → counted ≡ []
    → (few && all_below (length leaves) (λ r. nat_le (get_or leaves r 0) bound)) ≡ few
few_left few leaves counted bound tally none = and_all few _ (none_over leaves bound (tally_none leaves counted tally none))

module _ (nodes : List Node) (groups : List (Option ℕ)) (marks : List Mark) (row : ℕ) (n : Node) (read : n ≡ node_at nodes row) where
  -- what is known of the leaf that was looked at
  pub leaf_of : (mark_at marks row).live ≡ true → (group : ℕ) → ((g : ℕ) → is_group g (Some group) ≡ is_leaf_of groups g n) → (g : ℕ) → is_marked_leaf nodes groups marks g row ≡ (group == g)
  leaf_of live group is g = ap (λ b. b && is_leaf_of groups g (node_at nodes row)) live ∙ ap (is_leaf_of groups g) (sym read) ∙ sym (is g)

  pub leaf_of_none : (o : Option ℕ) → o ≡ None → ((g : ℕ) → is_group g o ≡ is_leaf_of groups g n) → (g : ℕ) → is_marked_leaf nodes groups marks g row ≡ false
  leaf_of_none o none is g = and_right (mark_at marks row).live _ (ap (is_leaf_of groups g) (sym read) ∙ sym (is g) ∙ ap (is_group g) none)

pub dead_leaf : (nodes : List Node) (groups : List (Option ℕ)) (marks : List Mark) (row : ℕ) → (mark_at marks row).live ≡ false → (g : ℕ) → is_marked_leaf nodes groups marks g row ≡ false
dead_leaf nodes groups marks row dead g = and_left (mark_at marks row).live _ dead
