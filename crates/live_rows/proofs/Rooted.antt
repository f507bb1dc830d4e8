-- Roots are marked row by row and probe by probe.
use Rattle.std.proofs.Common.{◌≡◌, ℕ, zero, suc, Some, None, ◌+◌, ◌<◌, ◌==◌, Bool, true, false, ◌||◌, List, [], ◌∷◌, ◌++◌, length, get_or, set, take, All, refl, sym, ap, ◌∙◌, subst, arith}
use Rattle.std.proofs.lemmas.Bool.{cond-true, cond-false, or_right, eq-eqb, ne_eqb}
use Rattle.std.proofs.lemmas.List.{append-nil, append_assoc, map-append, take_more, get_or_read, get_or-map, length-map}
use Rattle.expr_table.specs.declared.instance.ProbeRoots.{ProbeRoots}
use Rattle.expr_table.specs.declared.node.Row.{Row}
use Rattle.expr_table.specs.Instance.{rows_of}
use Rattle.expr_table.specs.Table.{has, numbers}
use Rattle.std.specs.Option.{MatchOption}
use Rattle.bit_rows.specs.Sets.{is_in, members_below}
use Rattle.bit_rows.proofs.Facts.{IsLeastFrom, NoneFrom, first_member-from, first_member-is, next_member-is, members_below-none}
use Rattle.once_random.specs.Tuples.{probe_at, roots_over}
use Rattle.once_random.proofs.Facts.{has-++}
use Rattle.live_rows.specs.declared.mark.Mark.{Mark}
use Rattle.live_rows.specs.Chosen.{chosen_from}
use Rattle.live_rows.specs.Marks.{mark_at}
use Rattle.live_rows.specs.Spread.{as_root, rooted}
use Rattle.live_rows.proofs.Marks.{each_mark}
use Rattle.live_rows.proofs.Numbers.{has_push, or-false}

-- the mark of a root that is known is as it was
pub root_known : (m : Mark) → m.root ≡ true → m.live ≡ true → m.touched ≡ true → m ≡ as_root m
root_known m r l t =
    ap (λ a. record m { root = a }) r ∙ ap (λ b. record m { root = true; live = b }) l ∙ ap (λ d. record m { root = true; live = true; touched = d }) t

root_again : (b : Bool) (m : Mark) → as_root (rooted b m) ≡ as_root m
root_again true m = refl
root_again false m = refl

root_twice : (a b : Bool) (m : Mark) → rooted a (rooted b m) ≡ rooted (b || a) m
root_twice true true m = refl
root_twice false true m = refl
root_twice true false m = refl
root_twice false false m = refl

module _ (rows : List Row) (k : ℕ) (d : Row) (start marks : List Mark) (lt : k < length rows) (within : (get_or rows k d).0 < length marks)
    (before : (r : ℕ) → mark_at marks r ≡ rooted (has (numbers (take k rows)) r) (mark_at start r)) where
  abbrev row : ℕ
  row = (get_or rows k d).0

  after : (r : ℕ) → has (numbers (take (k + 1) rows)) r ≡ (has (numbers (take k rows)) r || (row == r))
  after r =
      ap (λ (rs : List Row). has (numbers rs) r) (take_more rows k d lt)
      ∙ ap (λ ns. has ns r) (map-append (λ (row : Row). row.0) (take k rows) (get_or rows k d ∷ []))
      ∙ has_push (numbers (take k rows)) row r

  -- one more row of a probe
  pub one_more_root : (r : ℕ) → mark_at (set marks row (as_root (mark_at marks row))) r ≡ rooted (has (numbers (take (k + 1) rows)) r) (mark_at start r)
  one_more_root =
      each_mark (λ r m. m ≡ rooted (has (numbers (take (k + 1) rows)) r) (mark_at start r)) marks row (as_root (mark_at marks row)) within
      (ap as_root (before row) ∙ root_again (has (numbers (take k rows)) row) (mark_at start row)
      ∙ ap (λ b. rooted b (mark_at start row)) (sym (after row ∙ or_right (has (numbers (take k rows)) row) (row == row) (eq-eqb row row refl))))
      (λ r other. before r ∙ ap (λ b. rooted b (mark_at start r))
      (sym (after r ∙ ap (λ b. has (numbers (take k rows)) r || b) (ne_eqb row r other) ∙ or-false _)))

pub roots_over-append : (probes : List ProbeRoots) (ps qs : List ℕ) → roots_over probes (ps ++ qs) ≡ roots_over probes ps ++ roots_over probes qs
roots_over-append probes [] qs = refl
roots_over-append probes (p ∷ ps) qs = ap (λ rows. rows_of (probe_at probes p) ++ rows) (roots_over-append probes ps qs) ∙ sym (append_assoc (rows_of (probe_at probes p)) (roots_over probes ps) (roots_over probes qs))

-- the rows of a probe that was read are rows
pub probe_within : (probes : List ProbeRoots) (n : ℕ) → All (λ probe. All (λ row. row < n) (rows_of probe)) probes
    → (p : ℕ) (probe : ProbeRoots) → p < length probes → probe ≡ get_or probes p probe → (k : ℕ) (d : Row) → k < length probe.rows → (get_or probe.rows k d).0 < n
probe_within probes n all p probe lt is k d l =
    let here : All (λ row. row < n) (rows_of probe) = subst (λ (q : ProbeRoots). All (λ row. row < n) (rows_of q)) (sym is) (all p probe lt) in
    let l' : k < length (numbers probe.rows) = omega (arith, length-map probe.rows (λ (row : Row). row.0)) in
    subst (λ i. i < n) (get_or-map (λ (row : Row). row.0) probe.rows k d d.0 l) (here k d.0 l')

module _ (probes : List ProbeRoots) (chosen : List Bool) (start marks : List Mark) (p next : ℕ) (is : next ≡ suc p)
    (before : (r : ℕ) → mark_at marks r ≡ rooted (has (roots_over probes (members_below chosen p)) r) (mark_at start r)) where
  -- one more probe of the set
  pub one_more_probe : (new : List Mark) (probe : ProbeRoots) → p < length probes → probe ≡ get_or probes p probe → is_in chosen p ≡ true
      → ((r : ℕ) → mark_at new r ≡ rooted (has (rows_of probe) r) (mark_at marks r))
      → (r : ℕ) → mark_at new r ≡ rooted (has (roots_over probes (members_below chosen next)) r) (mark_at start r)
  one_more_probe new probe lt read member each r =
      let grown : members_below chosen next ≡ members_below chosen p ++ p ∷ [] =
      ap (members_below chosen) is ∙ ap (λ ms. members_below chosen p ++ ms) (cond-true (is_in chosen p) (p ∷ []) [] member) in
      let at_p : probe ≡ probe_at probes p = get_or_read probes p probe lt read (record { rows = []; output = false }) in
      let after : has (roots_over probes (members_below chosen next)) r ≡ (has (roots_over probes (members_below chosen p)) r || has (rows_of probe) r) =
      ap (λ ms. has (roots_over probes ms) r) grown
      ∙ ap (λ rows. has rows r) (roots_over-append probes (members_below chosen p) (p ∷ []))
      ∙ has-++ (roots_over probes (members_below chosen p)) (rows_of (probe_at probes p) ++ []) r
      ∙ ap (λ rows. has (roots_over probes (members_below chosen p)) r || has rows r) (append-nil (rows_of (probe_at probes p)))
      ∙ ap (λ (q : ProbeRoots). has (roots_over probes (members_below chosen p)) r || has (rows_of q) r) (sym at_p) in
      each r
      ∙ ap (rooted (has (rows_of probe) r)) (before r)
      ∙ root_twice (has (rows_of probe) r) (has (roots_over probes (members_below chosen p)) r) (mark_at start r)
      ∙ ap (λ b. rooted b (mark_at start r)) (sym after)

  -- a probe that is not in the set
  pub no_more_probe : is_in chosen p ≡ false → (r : ℕ) → mark_at marks r ≡ rooted (has (roots_over probes (members_below chosen next)) r) (mark_at start r)
  no_more_probe absent r =
      let same : members_below chosen next ≡ members_below chosen p =
      ap (members_below chosen) is ∙ ap (λ ms. members_below chosen p ++ ms) (cond-false (is_in chosen p) (p ∷ []) [] absent) ∙ append-nil (members_below chosen p) in
      before r ∙ ap (λ ms. rooted (has (roots_over probes ms) r) (mark_at start r)) (sym same)

-- ---- the least member from a start on

member_is : (xs : List Bool) (start : ℕ) → MatchOption (chosen_from xs start) (NoneFrom xs start) (IsLeastFrom xs start)
member_is xs zero = subst (λ found. MatchOption found (NoneFrom xs 0) (IsLeastFrom xs 0)) (sym (first_member-from xs)) (first_member-is xs)
member_is xs (suc k) = next_member-is xs k

pub member_some : (xs : List Bool) (start p : ℕ) → Some p ≡ chosen_from xs start → IsLeastFrom xs start p
member_some xs start p is = subst (λ found. MatchOption found (NoneFrom xs start) (IsLeastFrom xs start)) (sym is) (member_is xs start)

pub member_none : (xs : List Bool) (start : ℕ) → None ≡ chosen_from xs start → NoneFrom xs start
member_none xs start is = subst (λ found. MatchOption found (NoneFrom xs start) (IsLeastFrom xs start)) (sym is) (member_is xs start)

-- the members before the least from a start on are those before the start
pub below_least : (xs : List Bool) (start p : ℕ) → IsLeastFrom xs start p → members_below xs p ≡ members_below xs start
below_least xs start p least = members_below-none xs start p least.from least.before
