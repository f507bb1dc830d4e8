-- Marks whose counts are right say what is live: those rows that are roots or have a live parent.
use Rattle.std.proofs.Common.{◌≡◌, ℕ, zero, suc, ◌+◌, ◌<◌, ◌≤◌, Bool, true, not, ◌&&◌, List, length, refl, sym, ap, ◌∙◌, subst, arith, ⊎_elim}
use Rattle.std.proofs.lemmas.Bool.{cases_Bool, and_parts, and_from, not-true, both_ways}
use Rattle.expr_table.specs.declared.node.Node.{Node}
use Rattle.expr_table.specs.Table.{node_at, sides, has}
use Rattle.once_random.specs.Cuts.{is_fresh}
use Rattle.once_random.specs.Live.{AreRows, IsClosed, is_live, is_live_parent, AreLower}
use Rattle.once_random.specs.Numbers.{count_below}
use Rattle.once_random.proofs.Facts.{same_tests, count_below-same, count_some, live-root, live-side, live-from, live-least}
use Rattle.live_rows.specs.declared.mark.Mark.{Mark}
use Rattle.live_rows.specs.Marks.{mark_at}
use Rattle.live_rows.specs.Shown.{Shows}
use Rattle.live_rows.specs.Spread.{reads, IsCounted}
use Rattle.live_rows.proofs.Counts.{count_exists, mixed_same}
use Rattle.live_rows.proofs.Marks.{row_within}

-- the live rows that are not cut
abbrev pub is_reader : List Mark → ℕ → Bool
is_reader marks row = (mark_at marks row).live && not (mark_at marks row).cut

module _ (nodes : List Node) (roots cuts : List ℕ) (marks : List Mark) where
  pub roots_within : Shows nodes roots cuts marks → AreRows nodes roots
  roots_within shows row h =
      let l : row < length marks = row_within marks row (λ m. m.root) refl (shows.root row ∙ h) in
      omega (arith, shows.rows)

  pub cuts_within : Shows nodes roots cuts marks → AreRows nodes cuts
  cuts_within shows row h =
      let l : row < length marks = row_within marks row (λ m. m.cut) refl (shows.cut row ∙ h) in
      omega (arith, shows.rows)

  module _ (lower : AreLower nodes) (root : (row : ℕ) → (mark_at marks row).root ≡ has roots row) (cut : (row : ℕ) → (mark_at marks row).cut ≡ has cuts row)
      (is : IsCounted nodes (is_reader marks) marks) where
    rows : AreRows nodes roots
    rows row h =
        let l : row < length marks = row_within marks row (λ m. m.root) refl (root row ∙ h) in
        omega (arith, is.rows)

    live_row : (row : ℕ) → (mark_at marks row).live ≡ true → row < length nodes
    live_row row h =
        let l : row < length marks = row_within marks row (λ m. m.live) refl h in
        omega (arith, is.rows)

    -- what is marked live is live, from the last row to the first
    are_live : (fuel row : ℕ) → length nodes ≤ row + fuel → (mark_at marks row).live ≡ true → is_live nodes roots cuts row ≡ true
    are_live zero row le h = let l = live_row row h in absurd (omega arith)
    are_live (suc fuel) row le h =
        ⊎_elim
        (λ t. live-root nodes lower roots rows cuts row (sym (root row) ∙ t))
        (λ f. let some : 0 < count_below (length nodes) (reads nodes (is_reader marks) row) = subst (λ n. 0 < n) (is.parents row) (is.from row h f) in
        let p = count_exists (reads nodes (is_reader marks) row) (length nodes) some in
        let parts = and_parts (is_reader marks p.0) (has (sides (node_at nodes p.0)) row) p.2 in
        let reader = and_parts (mark_at marks p.0).live (not (mark_at marks p.0).cut) parts.0 in
        let low = lower p.0 row parts.1 in
        live-side nodes lower roots rows cuts p.0 row (are_live fuel p.0 (omega arith) reader.0) (sym (cut p.0) ∙ not-true (mark_at marks p.0).cut reader.1) parts.1)
        (cases_Bool (mark_at marks row).root)

    closed : IsClosed nodes roots cuts (λ row. (mark_at marks row).live)
    closed = record {
      each_root = λ row h. is.rooted row (root row ∙ h);
      each_side = λ row side l uncut s.
          let reader : reads nodes (is_reader marks) side row ≡ true =
          and_from (is_reader marks row) (has (sides (node_at nodes row)) side) (and_from (mark_at marks row).live (not (mark_at marks row).cut) l (ap not (cut row) ∙ uncut)) s in
          is.read side (subst (λ n. 0 < n) (sym (is.parents side)) (some _ (count_some (reads nodes (is_reader marks) side) (length nodes) row (live_row row l) reader)));
    }
      where
        some : (n : ℕ) → 1 ≤ n → 0 < n
        some n h = omega arith

    each_live : (row : ℕ) → (mark_at marks row).live ≡ is_live nodes roots cuts row
    each_live row =
        same_tests (mark_at marks row).live (is_live nodes roots cuts row)
        (are_live (length nodes) row (omega arith))
        ((live-least nodes lower roots rows cuts).least (λ row. (mark_at marks row).live) closed row)

    each_reader : (row parent : ℕ) → reads nodes (is_reader marks) row parent ≡ is_live_parent nodes roots cuts row parent
    each_reader row parent =
        ap (λ b. (b && not (mark_at marks parent).cut) && has (sides (node_at nodes parent)) row) (each_live parent)
        ∙ ap (λ b. (is_live nodes roots cuts parent && not b) && has (sides (node_at nodes parent)) row) (cut parent)

    pub settle : ((row : ℕ) → (mark_at marks row).live ≡ true → (mark_at marks row).fresh ≡ is_fresh nodes cuts row) → Shows nodes roots cuts marks
    settle fresh = record {
      rows = is.rows;
      root = root;
      cut = cut;
      live = each_live;
      parents = λ row. is.parents row ∙ count_below-same (length nodes) (reads nodes (is_reader marks) row) (is_live_parent nodes roots cuts row) (λ p _. each_reader row p);
      mixed = λ row. is.mixed row ∙ mixed_same (length nodes) (reads nodes (is_reader marks) row) (is_live_parent nodes roots cuts row) (λ p _. each_reader row p);
      fresh = λ row l. fresh row (each_live row ∙ l);
    }

  module _ (lower : AreLower nodes) (shows : Shows nodes roots cuts marks) where
    shown_reader : (row parent : ℕ) → is_live_parent nodes roots cuts row parent ≡ reads nodes (is_reader marks) row parent
    shown_reader row parent =
        ap (λ b. (b && not (has cuts parent)) && has (sides (node_at nodes parent)) row) (sym (shows.live parent))
        ∙ ap (λ b. ((mark_at marks parent).live && not b) && has (sides (node_at nodes parent)) row) (sym (shows.cut parent))

    pub unsettle : IsCounted nodes (is_reader marks) marks
    unsettle = record {
      rows = shows.rows;
      parents = λ row. shows.parents row ∙ count_below-same (length nodes) (is_live_parent nodes roots cuts row) (reads nodes (is_reader marks) row) (λ p _. shown_reader row p);
      mixed = λ row. shows.mixed row ∙ mixed_same (length nodes) (is_live_parent nodes roots cuts row) (reads nodes (is_reader marks) row) (λ p _. shown_reader row p);
      rooted = λ row h. shows.live row ∙ live-root nodes lower roots (roots_within shows) cuts row (sym (shows.root row) ∙ h);
      read = λ row some.
          let p = count_exists (is_live_parent nodes roots cuts row) (length nodes) (subst (λ n. 0 < n) (shows.parents row) some) in
          let parts = and_parts (is_live nodes roots cuts p.0 && not (has cuts p.0)) (has (sides (node_at nodes p.0)) row) p.2 in
          let reader = and_parts (is_live nodes roots cuts p.0) (not (has cuts p.0)) parts.0 in
          shows.live row ∙ live-side nodes lower roots (roots_within shows) cuts p.0 row reader.0 (not-true (has cuts p.0) reader.1) parts.1;
      from = λ row l unrooted.
          ⊎_elim (λ r. absurd (both_ways (has roots row) (sym (shows.root row) ∙ unrooted) r))
          (λ p. subst (λ n. 0 < n) (sym (shows.parents row))
          (some _ (count_some (is_live_parent nodes roots cuts row) (length nodes) p.0 p.1
          (and_from (is_live nodes roots cuts p.0 && not (has cuts p.0)) (has (sides (node_at nodes p.0)) row) (and_from (is_live nodes roots cuts p.0) (not (has cuts p.0)) p.2 (ap not p.3)) p.4))))
          (live-from nodes lower roots (roots_within shows) cuts row (sym (shows.live row) ∙ l));
    }
      where
        some : (n : ℕ) → 1 ≤ n → 0 < n
        some n h = omega arith
