-- One cut keeps the counts.
use Rattle.std.proofs.Common.{◌≡◌, ℕ, zero, suc, ◌<◌, Bool, true, false, not, cond, ◌||◌, ◌==◌, List, [], ◌∷◌, length, map, set, refl, sym, ap, ◌∙◌, subst, arith, ⊎_elim}
use Rattle.std.proofs.lemmas.Bool.{cases_Bool, cases_eq, and_from, or_cases, or_parts, or_from, eqb-true, eqb-false, ne_eqb, not-true, both_ways}
use Rattle.std.proofs.lemmas.List.{get_or-set_same, get_or-set_other}
use Rattle.expr_table.specs.declared.node.Node.{Node}
use Rattle.expr_table.specs.declared.node.Node.TheVariants as node
use Rattle.expr_table.specs.Table.{Table, IsTable, node_at, sides, has}
use Rattle.expr_table.specs.Values.{bit, xor}
use Rattle.once_random.specs.Cuts.{IsChain, is_allowed}
use Rattle.once_random.specs.Live.{AreRows, is_live, is_live_parent}
use Rattle.once_random.proofs.Facts.{all_below-at, live-root, live-side, live-from, live-below, live-fewer, has_first, has_later}
use Rattle.count_law.specs.Counts.{are_same_bits}
use Rattle.count_law.specs.RowCounts.{row_value, row_values, count_of_rows}
use Rattle.count_law.specs.CutRows.{masking_side, cut_table}
use Rattle.count_law.proofs.Counting.{total-same_long, one_at, count-total, masked, masked_total, Ignores}
use Rattle.count_law.proofs.CutNodes.{node_value, node_value-same, row-value, random_number, random-is, after, length-after, uncut, side, there, side_no_root, side_alone, side_random, after-uncut, after-other, after-here, after-side, after-earlier, after-within}

xor_twice : (x y : Bool) → xor (xor x y) y ≡ x
xor_twice true true = refl
xor_twice true false = refl
xor_twice false true = refl
xor_twice false false = refl

abbrev one_if : List Bool → List Bool → ℕ
one_if o seen = cond (are_same_bits seen o) 1 0

pub map-same : (f g : ℕ → Bool) (rs : List ℕ) → ((r : ℕ) → has rs r ≡ true → f r ≡ g r) → map f rs ≡ map g rs
map-same f g [] h = refl
map-same f g (x ∷ xs) h =
    let here = h x (has_first x xs) in let rest = map-same f g xs (λ r at. h r (has_later x r xs at)) in cc

module _ (t : Table) (table : IsTable t) (roots : List ℕ) (within : AreRows t.nodes roots) where
  abbrev live : List ℕ → ℕ → Bool
  live cuts r = is_live t.nodes roots cuts r

  abbrev nodes_after : List ℕ → List Node
  nodes_after cuts = after t table roots cuts

  abbrev side_of : List ℕ → ℕ → ℕ
  side_of cuts e = masking_side t.nodes roots cuts e

  fewer : (e : ℕ) (cuts : List ℕ) (r : ℕ) → live (e ∷ cuts) r ≡ true → live cuts r ≡ true
  fewer e cuts r l = live-fewer t.nodes table.earlier roots within e cuts r l

  below : (cuts : List ℕ) (r : ℕ) → live cuts r ≡ true → r < length t.nodes
  below cuts r l = live-below t.nodes table.earlier roots within cuts r l

  side_live : (cuts : List ℕ) (p s : ℕ) → live cuts p ≡ true → has cuts p ≡ false → has (sides (node_at t.nodes p)) s ≡ true → live cuts s ≡ true
  side_live cuts p s l unc h = live-side t.nodes table.earlier roots within cuts p s l unc h

  pub value_at : (cuts : List ℕ) → IsChain t.nodes roots cuts → (inputs w : List Bool) (r : ℕ) → live cuts r ≡ true
      → row_value (nodes_after cuts) inputs w r ≡ node_value inputs w (row_value (nodes_after cuts) inputs w) (node_at (nodes_after cuts) r)
  value_at cuts chain inputs w r l =
      row-value (nodes_after cuts) (after-earlier t table roots cuts chain) inputs w r (omega (arith, below cuts r l, length-after t table roots cuts))

  module _ (cuts : List ℕ) (e : ℕ) (allowed : is_allowed t.nodes roots cuts e ≡ true) where
    -- the only live parent of the side that masks e is e
    only_parent : (p : ℕ) → (p ≡ e → ⊥) → live cuts p ≡ true → has cuts p ≡ false → has (sides (node_at t.nodes p)) (side_of cuts e) ≡ true → ⊥
    only_parent p other l unc h =
        let at = all_below-at (length t.nodes) (λ q. q == e || not (is_live_parent t.nodes roots cuts (side_of cuts e) q)) (side_alone t table roots cuts e allowed) p (below cuts p l) in
        ⊎_elim (λ same. other (eqb-true p e same))
        (λ none. both_ways _ (not-true _ none) (and_from _ _ (and_from _ _ l (ap not unc)) h))
        (or_cases (p == e) (not (is_live_parent t.nodes roots cuts (side_of cuts e) p)) at)

    -- after the cut it is not live
    side_dead : live (e ∷ cuts) (side_of cuts e) ≡ true → ⊥
    side_dead l =
        ⊎_elim (λ root. both_ways _ (side_no_root t table roots cuts e allowed) root)
        (λ p. let unc = or_parts (e == p.0) (has cuts p.0) p.3 in
        only_parent p.0 (λ same. eqb-false e p.0 unc.0 (sym same)) (fewer e cuts p.0 p.2) unc.1 p.4)
        (live-from t.nodes table.earlier roots within (e ∷ cuts) (side_of cuts e) l)

  -- no two live rows are the same random leaf
  unique : (cuts : List ℕ) → IsChain t.nodes roots cuts → (r s k : ℕ) → live cuts r ≡ true → live cuts s ≡ true
      → node_at (nodes_after cuts) r ≡ node.Random k → node_at (nodes_after cuts) s ≡ node.Random k → r ≡ s
  unique [] chain r s k lr ls ir is = (table.random_once r k ir).1 ∙ sym (table.random_once s k is).1
  unique (e ∷ cuts) chain r s k lr ls ir is =
      let a = side_of cuts e in
      let x = side t table roots cuts e chain.0 in
      let unc = uncut t table roots cuts e chain.0 in
      let here = after-here t table roots cuts e (there t table roots cuts e chain.0) in
      let dead : (q : ℕ) → (q ≡ e → ⊥) → live (e ∷ cuts) q ≡ true → node_at (nodes_after (e ∷ cuts)) q ≡ node.Random k
      → live (e ∷ cuts) e ≡ true → node_at (nodes_after (e ∷ cuts)) e ≡ node.Random k → ⊥ =
      λ q other lq iq le ie.
      let la = side_live cuts e a (fewer e cuts e le) unc x.has_side in
      let same = unique cuts chain.1 q a k (fewer e cuts q lq) la (sym (after-other t table roots cuts e q other) ∙ iq) (sym here ∙ ie) in
      side_dead cuts e chain.0 (subst (λ p. live (e ∷ cuts) p ≡ true) same lq) in
      ⊎_elim
      (λ re. ⊎_elim (λ se. re ∙ sym se)
      (λ so. absurd (dead s so ls is (subst (λ p. live (e ∷ cuts) p ≡ true) re lr) (subst (λ p. node_at (nodes_after (e ∷ cuts)) p ≡ node.Random k) re ir)))
      (cases_eq s e))
      (λ ro. ⊎_elim (λ se. absurd (dead r ro lr ir (subst (λ p. live (e ∷ cuts) p ≡ true) se ls) (subst (λ p. node_at (nodes_after (e ∷ cuts)) p ≡ node.Random k) se is)))
      (λ so. unique cuts chain.1 r s k (fewer e cuts r lr) (fewer e cuts s ls)
      (sym (after-other t table roots cuts e r ro) ∙ ir) (sym (after-other t table roots cuts e s so) ∙ is))
      (cases_eq s e))
      (cases_eq r e)

  module _ (cuts : List ℕ) (chain : IsChain t.nodes roots cuts) (e : ℕ) (allowed : is_allowed t.nodes roots cuts e ≡ true) (inputs : List Bool) where
    abbrev val : List ℕ → List Bool → ℕ → Bool
    val cs w r = row_value (nodes_after cs) inputs w r

    module _ (live_e : live cuts e ≡ true) where
      abbrev a : ℕ
      a = side_of cuts e

      abbrev k : ℕ
      k = random_number (node_at (nodes_after cuts) a)

      abbrev other : ℕ
      other = (side t table roots cuts e allowed).other

      a_is : node_at (nodes_after cuts) a ≡ node.Random k
      a_is = random-is (node_at (nodes_after cuts) a) (side_random t table roots cuts chain e allowed)

      a_live : live cuts a ≡ true
      a_live = side_live cuts e a live_e (uncut t table roots cuts e allowed) (side t table roots cuts e allowed).has_side

      -- another live random leaf is not a's
      apart_from_a : (r i : ℕ) → live cuts r ≡ true → (r ≡ a → ⊥) → node_at (nodes_after cuts) r ≡ node.Random i → i ≡ k → ⊥
      apart_from_a r i l not_a is same = not_a (unique cuts chain r a k l a_live (is ∙ ap (λ (n : ℕ). node.Random n) same) a_is)

      -- what is live before e, but for a, does not read a's bit
      ignores : (fuel r : ℕ) → r < fuel → r < e → (r ≡ a → ⊥) → live cuts r ≡ true → (w : List Bool) (b : Bool) → val cuts (set w k b) r ≡ val cuts w r
      ignores zero r lt re not_a l w b = absurd (omega arith)
      ignores (suc fuel) r lt re not_a l w b =
          value_at cuts chain inputs (set w k b) r l
          ∙ node_value-same inputs inputs (set w k b) w (val cuts (set w k b)) (val cuts w) (node_at (nodes_after cuts) r)
          (λ i is. refl)
          (λ i is. get_or-set_other w k i b false (apart_from_a r i l not_a is))
          (λ s at.
          let kept = after-side t table roots cuts chain r s at in
          let low = table.earlier r s kept.1 in
          ignores fuel s (omega arith) (omega arith)
          (λ same. only_parent cuts e allowed r (λ at_e. omega arith) l kept.0 (subst (λ q. has (sides (node_at t.nodes r)) q ≡ true) same kept.1))
          (side_live cuts r s l kept.0 kept.1) w b)
          ∙ sym (value_at cuts chain inputs w r l)

      other_ignores : Ignores k (λ w. val cuts w other)
      other_ignores w b =
          let x = side t table roots cuts e allowed in
          ignores (suc other) other (omega arith) (table.earlier e other x.has_other) x.apart
          (side_live cuts e other live_e (uncut t table roots cuts e allowed) x.has_other) w b

      -- with a's bit masked by the other side, e has the value that the bit has before
      masked_e : (w : List Bool) → k < length w → val cuts (masked k (λ w. val cuts w other) w) e ≡ bit w k
      masked_e w kw =
          let x = side t table roots cuts e allowed in
          let mask : List Bool → Bool = λ w. val cuts w other in
          let m = masked k mask w in
          let unc = uncut t table roots cuts e allowed in
          let at_a : val cuts m a ≡ xor (bit w k) (mask w) =
          value_at cuts chain inputs m a a_live ∙ ap (node_value inputs m (val cuts m)) a_is ∙ get_or-set_same w k (xor (bit w k) (mask w)) false kw in
          let at_other : val cuts m other ≡ mask w = other_ignores w (xor (bit w k) (mask w)) in
          value_at cuts chain inputs m e live_e
          ∙ ap (node_value inputs m (val cuts m)) (after-uncut t table roots cuts e unc)
          ∙ x.value inputs m (val cuts m)
          ∙ ap (λ b. xor b (val cuts m other)) at_a
          ∙ ap (λ b. xor (xor (bit w k) (mask w)) b) at_other
          ∙ xor_twice (bit w k) (mask w)

      -- the values with the cut are those without it, with a's bit masked by the other side
      cut_value : (fuel r : ℕ) → r < fuel → live (e ∷ cuts) r ≡ true → (w : List Bool) → k < length w
          → val (e ∷ cuts) w r ≡ val cuts (masked k (λ w. val cuts w other) w) r
      cut_value zero r lt l w kw = absurd (omega arith)
      cut_value (suc fuel) r lt l w kw =
          let m = masked k (λ w. val cuts w other) w in
          let l_before = fewer e cuts r l in
          let not_a : r ≡ a → ⊥ = λ same. side_dead cuts e allowed (subst (λ q. live (e ∷ cuts) q ≡ true) same l) in
          ⊎_elim
          (λ re. subst (λ q. val (e ∷ cuts) w q ≡ val cuts m q) (sym re) (
          value_at (e ∷ cuts) (allowed, chain) inputs w e (subst (λ q. live (e ∷ cuts) q ≡ true) re l)
          ∙ ap (node_value inputs w (val (e ∷ cuts) w)) (after-here t table roots cuts e (there t table roots cuts e allowed) ∙ a_is)
          ∙ sym (masked_e w kw)))
          (λ ro.
          value_at (e ∷ cuts) (allowed, chain) inputs w r l
          ∙ ap (node_value inputs w (val (e ∷ cuts) w)) (after-other t table roots cuts e r ro)
          ∙ node_value-same inputs inputs w m (val (e ∷ cuts) w) (val cuts m) (node_at (nodes_after cuts) r)
          (λ i is. refl)
          (λ i is. sym (get_or-set_other w k i (xor (bit w k) (val cuts w other)) false (apart_from_a r i l_before not_a is)))
          (λ s at.
          let kept = after-side t table roots cuts chain r s at in
          let low = table.earlier r s kept.1 in
          let unc = or_from (e == r) (has cuts r) (ne_eqb e r (λ same. ro (sym same))) kept.0 in
          cut_value fuel s (omega arith) (side_live (e ∷ cuts) r s l unc kept.1) w kw)
          ∙ sym (value_at cuts chain inputs m r l_before))
          (cases_eq r e)

    -- a cut of a row that is not live leaves each live value
    dead_value : live cuts e ≡ false → (fuel r : ℕ) → r < fuel → live cuts r ≡ true → live (e ∷ cuts) r ≡ true → (w : List Bool) → val (e ∷ cuts) w r ≡ val cuts w r
    dead_value dead zero r lt l l' w = absurd (omega arith)
    dead_value dead (suc fuel) r lt l l' w =
        let ro : r ≡ e → ⊥ = λ same. both_ways _ dead (subst (λ q. live cuts q ≡ true) same l) in
        value_at (e ∷ cuts) (allowed, chain) inputs w r l'
        ∙ ap (node_value inputs w (val (e ∷ cuts) w)) (after-other t table roots cuts e r ro)
        ∙ node_value-same inputs inputs w w (val (e ∷ cuts) w) (val cuts w) (node_at (nodes_after cuts) r)
        (λ i is. refl) (λ i is. refl)
        (λ s at.
        let kept = after-side t table roots cuts chain r s at in
        let low = table.earlier r s kept.1 in
        let unc = or_from (e == r) (has cuts r) (ne_eqb e r (λ same. ro (sym same))) kept.0 in
        dead_value dead fuel s (omega arith) (side_live cuts r s l kept.0 kept.1) (side_live (e ∷ cuts) r s l' unc kept.1) w)
        ∙ sym (value_at cuts chain inputs w r l)

    pub one_cut : (o : List Bool) → count_of_rows (cut_table t roots cuts) roots inputs o ≡ count_of_rows (cut_table t roots (e ∷ cuts)) roots inputs o
    one_cut o =
        let before : List Bool → List Bool = λ w. row_values (nodes_after cuts) roots inputs w in
        let next : List Bool → List Bool = λ w. row_values (nodes_after (e ∷ cuts)) roots inputs w in
        let root_live : (cs : List ℕ) (r : ℕ) → has roots r ≡ true → live cs r ≡ true = λ cs r at. live-root t.nodes table.earlier roots within cs r at in
        count-total t.randoms before o
        ∙ ⊎_elim
        (λ l.
        let v = k l in
        let mask : List Bool → Bool = λ w. val cuts w (other l) in
        let vn = after-within t table roots cuts chain (a l) v (a_is l) in
        sym (total-same_long t.randoms (one_at next o) (λ w. one_at before o (masked v mask w)) (λ w len.
        ap (one_if o) (map-same (val (e ∷ cuts) w) (val cuts (masked v mask w)) roots (λ r at. cut_value l (suc r) r (omega arith) (root_live (e ∷ cuts) r at) w (omega arith))))
        ∙ masked_total t.randoms v mask (one_at before o) vn (other_ignores l)))
        (λ d. sym (total-same_long t.randoms (one_at next o) (one_at before o) (λ w len.
        ap (one_if o) (map-same (val (e ∷ cuts) w) (val cuts w) roots (λ r at. dead_value d (suc r) r (omega arith) (root_live cuts r at) (root_live (e ∷ cuts) r at) w)))))
        (cases_Bool (live cuts e))
        ∙ sym (count-total t.randoms next o)
