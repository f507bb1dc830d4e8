-- The nodes after cuts: cut rows are random leaves, the others are as they were; and the value of a row by those of its sides.
use Rattle.std.proofs.Common.{◌≡◌, ℕ, ◌+◌, ◌<◌, Bool, true, false, not, ◌&&◌, ◌||◌, ◌==◌, List, [], ◌∷◌, length, Option, None, Some, refl, sym, ap, ◌∙◌, subst, arith, true≢false, ⊎_elim}
use Rattle.std.specs.Prelude.{unwrap_or}
use Rattle.std.proofs.lemmas.Bool.{cases_Bool, cases_lt, cases_eq, and_parts, and_from, or_cases, or_parts, eqb-true, eqb-false, not-true, both_ways}
use Rattle.std.proofs.lemmas.List.{get_or_past, length-set, get_or-set_same, get_or-set_other}
use Rattle.expr_table.specs.declared.node.Node.{Node}
use Rattle.expr_table.specs.declared.node.Node.TheVariants as node
use Rattle.expr_table.specs.declared.node.Row.{Row}
use Rattle.expr_table.specs.Table.{Table, IsTable, node_at, sides, has, terms, term_at, term_of}
use Rattle.expr_table.specs.Term.{Term}
use Rattle.expr_table.specs.Values.{bit, eval, xor}
use Rattle.expr_table.proofs.Facts.{Xor-sides_differ, xor-turned}
use Rattle.expr_table.proofs.Rows.{SidesBelow-from_sides, term_at-node}
use Rattle.once_random.specs.Live.{AreLower}
use Rattle.once_random.specs.Numbers.{least_below}
use Rattle.once_random.specs.Cuts.{IsChain, is_allowed, is_fresh, is_masked, is_random, masks, has_no_parent_but}
use Rattle.once_random.proofs.Facts.{has_first, has_later}
use Rattle.once_random.proofs.LeastChain.{passes_at, fails_below}
use Rattle.count_law.specs.RowCounts.{row_value}
use Rattle.count_law.specs.CutRows.{masking_side, cut_nodes}

-- the value of a node, where the values of its sides are read
abbrev pub node_value : List Bool → List Bool → (ℕ → Bool) → Node → Bool
node_value inputs w read node.Zero = false
node_value inputs w read node.One = true
node_value inputs w read (node.Input i) = bit inputs i
node_value inputs w read (node.Random i) = bit w i
node_value inputs w read (node.And a b) = read a.0 && read b.0
node_value inputs w read (node.Xor a b) = xor (read a.0) (read b.0)

node_value-term : (inputs w : List Bool) (ts : List Term) (n : Node) → eval inputs w (term_of ts n) ≡ node_value inputs w (λ row. eval inputs w (term_at ts row)) n
node_value-term inputs w ts node.Zero = refl
node_value-term inputs w ts node.One = refl
node_value-term inputs w ts (node.Input i) = refl
node_value-term inputs w ts (node.Random i) = refl
node_value-term inputs w ts (node.And a b) = refl
node_value-term inputs w ts (node.Xor a b) = refl

pub row-value : (nodes : List Node) → AreLower nodes → (inputs w : List Bool) (row : ℕ) → row < length nodes
    → row_value nodes inputs w row ≡ node_value inputs w (row_value nodes inputs w) (node_at nodes row)
row-value nodes earlier inputs w row lt =
    ap (eval inputs w) (term_at-node nodes (λ r. SidesBelow-from_sides r (node_at nodes r) (earlier r)) row lt)
    ∙ node_value-term inputs w (terms nodes) (node_at nodes row)

-- a node has the same value where its leaf has the same bit and its sides have the same values
pub node_value-same : (inputs others w v : List Bool) (f g : ℕ → Bool) (n : Node)
    → ((i : ℕ) → n ≡ node.Input i → bit inputs i ≡ bit others i) → ((i : ℕ) → n ≡ node.Random i → bit w i ≡ bit v i)
    → ((s : ℕ) → has (sides n) s ≡ true → f s ≡ g s) → node_value inputs w f n ≡ node_value others v g n
node_value-same inputs others w v f g node.Zero leaf random side = refl
node_value-same inputs others w v f g node.One leaf random side = refl
node_value-same inputs others w v f g (node.Input i) leaf random side = leaf i refl
node_value-same inputs others w v f g (node.Random i) leaf random side = random i refl
node_value-same inputs others w v f g (node.And a b) leaf random side =
    let x = side a.0 (has_first a.0 (b.0 ∷ [])) in let y = side b.0 (has_later a.0 b.0 (b.0 ∷ []) (has_first b.0 [])) in cc
node_value-same inputs others w v f g (node.Xor a b) leaf random side =
    let x = side a.0 (has_first a.0 (b.0 ∷ [])) in let y = side b.0 (has_later a.0 b.0 (b.0 ∷ []) (has_first b.0 [])) in cc

-- the number of a random leaf
abbrev pub random_number : Node → ℕ
random_number (node.Random i) = i
random_number n = 0

pub random-is : (n : Node) → is_random n ≡ true → n ≡ node.Random (random_number n)
random-is (node.Random i) h = refl
random-is n h = absurd (true≢false (sym h))

random-no_side : (n : Node) → is_random n ≡ true → (s : ℕ) → has (sides n) s ≡ true → ⊥
random-no_side (node.Random i) h s side = true≢false (sym side)
random-no_side n h s side = true≢false (sym h)

pub random-no_input : (n : Node) → is_random n ≡ true → (i : ℕ) → n ≡ node.Input i → ⊥
random-no_input n h i e = true≢false (sym h ∙ ap is_random e)

-- a side of an Xor, and its other side
pub record XorSide (nodes : List Node) (e side : ℕ) : Type 0 where
  pub other : ℕ
  pub has_side : has (sides (node_at nodes e)) side ≡ true
  pub has_other : has (sides (node_at nodes e)) other ≡ true
  pub apart : other ≡ side → ⊥
  pub value : (inputs w : List Bool) (read : ℕ → Bool) → node_value inputs w read (node_at nodes e) ≡ xor (read side) (read other)

-- a row with a side is there
pub side-below : (nodes : List Node) (row s : ℕ) → has (sides (node_at nodes row)) s ≡ true → row < length nodes
side-below nodes row s h =
    ⊎_elim (λ l. l) (λ le. absurd (true≢false (sym h ∙ ap (λ n. has (sides n) s) (get_or_past nodes row node.Zero le)))) (cases_lt row (length nodes))

module _ (t : Table) (table : IsTable t) (roots : List ℕ) where
  abbrev pub after : List ℕ → List Node
  after cuts = cut_nodes t.nodes roots cuts

  pub length-after : (cuts : List ℕ) → length (after cuts) ≡ length t.nodes
  length-after [] = refl
  length-after (e ∷ cuts) = length-set (after cuts) e (node_at (after cuts) (masking_side t.nodes roots cuts e)) ∙ length-after cuts

  pub uncut : (cuts : List ℕ) (e : ℕ) → is_allowed t.nodes roots cuts e ≡ true → has cuts e ≡ false
  uncut cuts e h = not-true (has cuts e) (and_parts (not (has cuts e)) (is_masked t.nodes roots cuts e (node_at t.nodes e)) h).0

  is_xor : (cuts : List ℕ) (e : ℕ) (n : Node) → is_masked t.nodes roots cuts e n ≡ true
      → (a : Row) × (b : Row) × (n ≡ node.Xor a b) × ((masks t.nodes roots cuts e a.0 || masks t.nodes roots cuts e b.0) ≡ true)
  is_xor cuts e (node.Xor a b) h = (a, b, refl, h)
  is_xor cuts e n h = absurd (true≢false (sym h))

  -- a row that may be cut, by its sides
  module _ (cuts : List ℕ) (e : ℕ) (allowed : is_allowed t.nodes roots cuts e ≡ true) where
    abbrev masks_as_side : ℕ → Bool
    masks_as_side s = has (sides (node_at t.nodes e)) s && masks t.nodes roots cuts e s

    masked : is_masked t.nodes roots cuts e (node_at t.nodes e) ≡ true
    masked = (and_parts (not (has cuts e)) (is_masked t.nodes roots cuts e (node_at t.nodes e)) allowed).1

    some_side : (a b : Row) → node_at t.nodes e ≡ node.Xor a b → (masks t.nodes roots cuts e a.0 || masks t.nodes roots cuts e b.0) ≡ true
        → (s : ℕ) × (masks_as_side s ≡ true)
    some_side a b is h =
        ⊎_elim
        (λ m. (a.0, and_from _ _ (subst (λ n. has (sides n) a.0 ≡ true) (sym is) (has_first a.0 (b.0 ∷ []))) m))
        (λ m. (b.0, and_from _ _ (subst (λ n. has (sides n) b.0 ≡ true) (sym is) (has_later a.0 b.0 (b.0 ∷ []) (has_first b.0 []))) m))
        (or_cases (masks t.nodes roots cuts e a.0) (masks t.nodes roots cuts e b.0) h)

    least_masks : masks_as_side (masking_side t.nodes roots cuts e) ≡ true
    least_masks = by (least_below (length t.nodes) masks_as_side) refl
      where
        by : (o : Option ℕ) → least_below (length t.nodes) masks_as_side ≡ o → masks_as_side (masking_side t.nodes roots cuts e) ≡ true
        by (Some s) is =
            let same : masking_side t.nodes roots cuts e ≡ s = ap (λ o. unwrap_or o e) is in
            subst (λ q. masks_as_side q ≡ true) (sym same) (passes_at masks_as_side (length t.nodes) s is).1
        by None is =
            let x = is_xor cuts e (node_at t.nodes e) masked in
            let s = some_side x.0 x.1 x.2 x.3 in
            let side = (and_parts (has (sides (node_at t.nodes e)) s.0) (masks t.nodes roots cuts e s.0) s.1).0 in
            let e_there = side-below t.nodes e s.0 side in
            let before = table.earlier e s.0 side in
            absurd (both_ways _ (fails_below masks_as_side (length t.nodes) is s.0 (omega arith)) s.1)

    pub side_masks : masks t.nodes roots cuts e (masking_side t.nodes roots cuts e) ≡ true
    side_masks = (and_parts (has (sides (node_at t.nodes e)) (masking_side t.nodes roots cuts e)) (masks t.nodes roots cuts e (masking_side t.nodes roots cuts e)) least_masks).1

    pub side_fresh : is_fresh t.nodes cuts (masking_side t.nodes roots cuts e) ≡ true
    side_fresh = (and_parts (is_fresh t.nodes cuts (masking_side t.nodes roots cuts e)) _ side_masks).0

    pub side_no_root : has roots (masking_side t.nodes roots cuts e) ≡ false
    side_no_root = not-true _ (and_parts (not (has roots (masking_side t.nodes roots cuts e))) _ (and_parts (is_fresh t.nodes cuts (masking_side t.nodes roots cuts e)) _ side_masks).1).0

    pub side_alone : has_no_parent_but t.nodes roots cuts e (masking_side t.nodes roots cuts e) ≡ true
    side_alone = (and_parts (not (has roots (masking_side t.nodes roots cuts e))) _ (and_parts (is_fresh t.nodes cuts (masking_side t.nodes roots cuts e)) _ side_masks).1).1

    first_side : (a b : Row) → node_at t.nodes e ≡ node.Xor a b → XorSide t.nodes e a.0
    first_side a b is = record {
      other = b.0;
      has_side = subst (λ n. has (sides n) a.0 ≡ true) (sym is) (has_first a.0 (b.0 ∷ []));
      has_other = subst (λ n. has (sides n) b.0 ≡ true) (sym is) (has_later a.0 b.0 (b.0 ∷ []) (has_first b.0 []));
      apart = λ same. Xor-sides_differ t table e a b is (sym same);
      value = λ inputs w read. ap (node_value inputs w read) is;
    }

    second_side : (a b : Row) → node_at t.nodes e ≡ node.Xor a b → XorSide t.nodes e b.0
    second_side a b is = record {
      other = a.0;
      has_side = subst (λ n. has (sides n) b.0 ≡ true) (sym is) (has_later a.0 b.0 (b.0 ∷ []) (has_first b.0 []));
      has_other = subst (λ n. has (sides n) a.0 ≡ true) (sym is) (has_first a.0 (b.0 ∷ []));
      apart = λ same. Xor-sides_differ t table e a b is same;
      value = λ inputs w read. ap (node_value inputs w read) is ∙ xor-turned (read a.0) (read b.0);
    }

    either_side : (a b : Row) → node_at t.nodes e ≡ node.Xor a b → (s : ℕ) → has (sides (node_at t.nodes e)) s ≡ true → XorSide t.nodes e s
    either_side a b is s h =
        let at : (a.0 == s || (b.0 == s || false)) ≡ true = subst (λ n. has (sides n) s ≡ true) is h in
        ⊎_elim
        (λ q. subst (XorSide t.nodes e) (eqb-true a.0 s q) (first_side a b is))
        (λ q. ⊎_elim (λ r. subst (XorSide t.nodes e) (eqb-true b.0 s r) (second_side a b is)) (λ r. absurd (true≢false (sym r))) (or_cases (b.0 == s) false q))
        (or_cases (a.0 == s) (b.0 == s || false) at)

    pub side : XorSide t.nodes e (masking_side t.nodes roots cuts e)
    side =
        let x = is_xor cuts e (node_at t.nodes e) masked in
        either_side x.0 x.1 x.2 (masking_side t.nodes roots cuts e)
        (and_parts (has (sides (node_at t.nodes e)) (masking_side t.nodes roots cuts e)) (masks t.nodes roots cuts e (masking_side t.nodes roots cuts e)) least_masks).0

    pub there : e < length t.nodes
    there = side-below t.nodes e (masking_side t.nodes roots cuts e) side.has_side

  -- what stands in a row after cuts
  pub after-uncut : (cuts : List ℕ) (r : ℕ) → has cuts r ≡ false → node_at (after cuts) r ≡ node_at t.nodes r
  after-uncut [] r h = refl
  after-uncut (e ∷ cuts) r h =
      let p = or_parts (e == r) (has cuts r) h in
      get_or-set_other (after cuts) e r (node_at (after cuts) (masking_side t.nodes roots cuts e)) node.Zero (λ same. eqb-false e r p.0 (sym same)) ∙ after-uncut cuts r p.1

  pub after-other : (cuts : List ℕ) (e r : ℕ) → (r ≡ e → ⊥) → node_at (after (e ∷ cuts)) r ≡ node_at (after cuts) r
  after-other cuts e r other = get_or-set_other (after cuts) e r (node_at (after cuts) (masking_side t.nodes roots cuts e)) node.Zero other

  pub after-here : (cuts : List ℕ) (e : ℕ) → e < length t.nodes → node_at (after (e ∷ cuts)) e ≡ node_at (after cuts) (masking_side t.nodes roots cuts e)
  after-here cuts e lt = get_or-set_same (after cuts) e (node_at (after cuts) (masking_side t.nodes roots cuts e)) node.Zero (omega (arith, lt, length-after cuts))

  fresh-random : (cuts : List ℕ) → ((r : ℕ) → has cuts r ≡ true → is_random (node_at (after cuts) r) ≡ true)
      → (a : ℕ) → is_fresh t.nodes cuts a ≡ true → is_random (node_at (after cuts) a) ≡ true
  fresh-random cuts each a h =
      ⊎_elim (λ c. each a c)
      (λ c. ap is_random (after-uncut cuts a c)
      ∙ ⊎_elim (λ u. u) (λ u. absurd (both_ways _ c u)) (or_cases (is_random (node_at t.nodes a)) (has cuts a) h))
      (cases_Bool (has cuts a))

  pub after-cut : (cuts : List ℕ) → IsChain t.nodes roots cuts → (r : ℕ) → has cuts r ≡ true → is_random (node_at (after cuts) r) ≡ true
  after-cut [] chain r h = absurd (true≢false (sym h))
  after-cut (e ∷ cuts) chain r h =
      let here = ap is_random (after-here cuts e (there cuts e chain.0))
      ∙ fresh-random cuts (after-cut cuts chain.1) (masking_side t.nodes roots cuts e) (side_fresh cuts e chain.0) in
      let earlier = after-cut cuts chain.1 r in
      ⊎_elim
      (λ same. subst (λ q. is_random (node_at (after (e ∷ cuts)) q) ≡ true) (sym same) here)
      (λ other. ap is_random (after-other cuts e r other)
      ∙ earlier (⊎_elim (λ q. absurd (other (sym (eqb-true e r q)))) (λ q. q) (or_cases (e == r) (has cuts r) h)))
      (cases_eq r e)

  -- the masking side is a random leaf by then
  pub side_random : (cuts : List ℕ) → IsChain t.nodes roots cuts → (e : ℕ) → is_allowed t.nodes roots cuts e ≡ true
      → is_random (node_at (after cuts) (masking_side t.nodes roots cuts e)) ≡ true
  side_random cuts chain e allowed = fresh-random cuts (after-cut cuts chain) (masking_side t.nodes roots cuts e) (side_fresh cuts e allowed)

  -- what still has a side was not cut
  pub after-side : (cuts : List ℕ) → IsChain t.nodes roots cuts → (r s : ℕ) → has (sides (node_at (after cuts) r)) s ≡ true
      → (has cuts r ≡ false) × (has (sides (node_at t.nodes r)) s ≡ true)
  after-side cuts chain r s h =
      ⊎_elim (λ c. absurd (random-no_side (node_at (after cuts) r) (after-cut cuts chain r c) s h))
      (λ c. (c, subst (λ n. has (sides n) s ≡ true) (after-uncut cuts r c) h))
      (cases_Bool (has cuts r))

  pub after-earlier : (cuts : List ℕ) → IsChain t.nodes roots cuts → AreLower (after cuts)
  after-earlier cuts chain row s h = table.earlier row s (after-side cuts chain row s h).1

  pub after-input : (cuts : List ℕ) → IsChain t.nodes roots cuts → (r i : ℕ) → node_at (after cuts) r ≡ node.Input i → (i < t.inputs) × (r ≡ 2 + i)
  after-input cuts chain r i is =
      ⊎_elim (λ c. absurd (random-no_input (node_at (after cuts) r) (after-cut cuts chain r c) i is))
      (λ c. table.input_once r i (sym (after-uncut cuts r c) ∙ is))
      (cases_Bool (has cuts r))

  pub after-within : (cuts : List ℕ) → IsChain t.nodes roots cuts → (r k : ℕ) → node_at (after cuts) r ≡ node.Random k → k < t.randoms
  after-within [] chain r k is = (table.random_once r k is).0
  after-within (e ∷ cuts) chain r k is =
      let at_side = after-within cuts chain.1 (masking_side t.nodes roots cuts e) k in
      let at_row = after-within cuts chain.1 r k in
      ⊎_elim
      (λ same. at_side (sym (after-here cuts e (there cuts e chain.0)) ∙ subst (λ q. node_at (after (e ∷ cuts)) q ≡ node.Random k) same is))
      (λ other. at_row (sym (after-other cuts e r other) ∙ is))
      (cases_eq r e)
