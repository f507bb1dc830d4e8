-- A table with one more gate.
use Rattle.std.proofs.Common.{◌≡◌, ℕ, zero, suc, IsTrue, ◌<◌, ◌+◌, List, [], ◌∷◌, ◌++◌, length, slice_get, Some, false, Less, refl, sym, ap, ◌∙◌, subst, arith, ⊎_elim}
use Rattle.std.proofs.lemmas.Bool.{cases_lt}
use Rattle.std.proofs.lemmas.List.{get_or_append_left, get_or_past, get_or_push, length_push}
use Rattle.expr_table.specs.declared.node.Node.{Node}
use Rattle.expr_table.specs.declared.node.Row.{Row}
use Rattle.expr_table.specs.declared.node.Node.TheVariants as node
use Rattle.expr_table.specs.Term.{Term, Zero, term_cmp}
use Rattle.expr_table.specs.Table.{Table, IsTable, IsRowOf, most_rows, node_at, sides, has, has_term, with_term, terms, term_of, term_at}
use Rattle.expr_table.specs.Interning.{IsAbsent, IsOrderedGate}
use Rattle.expr_table.proofs.Rows.{SidesBelow, SidesBelow-weaker, sides-from_below, length-terms, terms-push, term_at-append, AreDistinct, node_from_term, row-below, row-term, row-distinct, has_term-absent, with_term-absent}

-- the table with one more row
abbrev pub pushed : Table → Node → Table
pushed t n = record { inputs = t.inputs; randoms = t.randoms; nodes = t.nodes ++ n ∷ [] }

-- a new term at the end of distinct ones
AreDistinct-push : (ts : List Term) (t : Term) → AreDistinct ts → ((i : ℕ) → i < length ts → term_at ts i ≡ t → ⊥) → AreDistinct (ts ++ t ∷ [])
AreDistinct-push ts t apart new i j il jl e =
    let at_end = get_or_push ts t Zero (length ts) refl in
    let len = length_push ts t in
    ⊎_elim (λ p. ⊎_elim
    (λ q. apart i j p q (sym (get_or_append_left ts (t ∷ []) Zero i p) ∙ e ∙ get_or_append_left ts (t ∷ []) Zero j q))
    (λ q. let same : j ≡ length ts = omega arith in absurd (new i p (sym (get_or_append_left ts (t ∷ []) Zero i p) ∙ e ∙ ap (term_at (ts ++ t ∷ [])) same ∙ at_end)))
    (cases_lt j (length ts)))
    (λ p. let here : i ≡ length ts = omega arith in ⊎_elim
    (λ q. absurd (new j q (sym (get_or_append_left ts (t ∷ []) Zero j q) ∙ sym e ∙ ap (term_at (ts ++ t ∷ [])) here ∙ at_end)))
    (λ q. omega arith)
    (cases_lt j (length ts)))
    (cases_lt i (length ts))

-- old rows stay, and the last is the new one
pub slice_get-left : {A : Type 0} (xs ys : List A) (i : ℕ) (x : A) → slice_get xs i ≡ Some x → slice_get (xs ++ ys) i ≡ Some x
slice_get-left [] ys i x h = cc
slice_get-left (y ∷ xs) ys zero x h = h
slice_get-left (y ∷ xs) ys (suc i) x h = slice_get-left xs ys i x h

-- what holds of the old nodes, the new node and Zero holds of each
each_row : (ns : List Node) (n : Node) (row : ℕ) (P : Node → Type 0) → (row < length ns → P (node_at ns row)) → (row ≡ length ns → P n) → P node.Zero → P (node_at (ns ++ n ∷ []) row)
each_row ns n row P old new none =
    ⊎_elim (λ p. subst P (sym (get_or_append_left ns (n ∷ []) node.Zero row p)) (old p))
    (λ p. ⊎_elim
    (λ q. subst P (sym (get_or_past (ns ++ n ∷ []) row node.Zero (omega (arith, length_push ns n)))) none)
    (λ q. let here : row ≡ length ns = omega arith in subst P (sym (get_or_push ns n node.Zero row (sym here))) (new here))
    (cases_lt (length ns) row))
    (cases_lt row (length ns))

not_Input : (ns : List Node) (n : Node) (i : ℕ) → IsOrderedGate ns n → n ≡ node.Input i → ⊥
not_Input ns node.Zero i is e = is
not_Input ns node.One i is e = is
not_Input ns (node.Input j) i is e = is
not_Input ns (node.Random j) i is e = is
not_Input ns (node.And a b) i is e = cc
not_Input ns (node.Xor a b) i is e = cc

not_Random : (ns : List Node) (n : Node) (i : ℕ) → IsOrderedGate ns n → n ≡ node.Random i → ⊥
not_Random ns node.Zero i is e = is
not_Random ns node.One i is e = is
not_Random ns (node.Input j) i is e = is
not_Random ns (node.Random j) i is e = is
not_Random ns (node.And a b) i is e = cc
not_Random ns (node.Xor a b) i is e = cc

ordered-below : (ns : List Node) (n : Node) → IsOrderedGate ns n → SidesBelow (length ns) n
ordered-below ns node.Zero is = tt
ordered-below ns node.One is = tt
ordered-below ns (node.Input j) is = tt
ordered-below ns (node.Random j) is = tt
ordered-below ns (node.And a b) is = (is.0, is.1)
ordered-below ns (node.Xor a b) is = (is.0, is.1)

module _ (t : Table) (n : Node) (table : IsTable t) (is : IsOrderedGate t.nodes n) where
  below-term : SidesBelow (length (terms t.nodes)) n
  below-term = SidesBelow-weaker (length t.nodes) (length (terms t.nodes)) n (omega (arith, length-terms t.nodes)) (ordered-below t.nodes n is)

  -- an absent node's term is in no row
  new_term : IsAbsent t.nodes n → (i : ℕ) → i < length (terms t.nodes) → term_at (terms t.nodes) i ≡ term_of (terms t.nodes) n → ⊥
  new_term absent i il e =
      let lt : i < length t.nodes = omega (arith, length-terms t.nodes) in
      let below = SidesBelow-weaker i (length (terms t.nodes)) (node_at t.nodes i) (omega arith) (row-below t table i) in
      absent i lt (node_from_term (terms t.nodes) (row-distinct t table) (node_at t.nodes i) n below below-term (sym (row-term t table i lt) ∙ e))

  pub has_term-new : IsAbsent t.nodes n → has_term (terms t.nodes) (term_of (terms t.nodes) n) ≡ false
  has_term-new absent = has_term-absent (terms t.nodes) (term_of (terms t.nodes) n) (new_term absent)

  pub terms-added : IsAbsent t.nodes n → terms (t.nodes ++ n ∷ []) ≡ with_term (terms t.nodes) (term_of (terms t.nodes) n)
  terms-added absent = terms-push t.nodes n ∙ sym (with_term-absent (terms t.nodes) (term_of (terms t.nodes) n) (has_term-new absent))

  -- old terms compare as before
  old_order : (a b : Row) → a.0 < length t.nodes → b.0 < length t.nodes → term_cmp (term_at (terms t.nodes) a.0) (term_at (terms t.nodes) b.0) ≡ Less
      → term_cmp (term_at (terms (t.nodes ++ n ∷ [])) a.0) (term_at (terms (t.nodes ++ n ∷ [])) b.0) ≡ Less
  old_order a b al bl e =
      (λ i. term_cmp (term_at-append t.nodes (n ∷ []) a.0 al i) (term_at-append t.nodes (n ∷ []) b.0 bl i)) ∙ e

  ordered-And : (a b : Row) → n ≡ node.And a b → IsOrderedGate t.nodes (node.And a b)
  ordered-And a b e = subst (IsOrderedGate t.nodes) e is

  ordered-Xor : (a b : Row) → n ≡ node.Xor a b → IsOrderedGate t.nodes (node.Xor a b)
  ordered-Xor a b e = subst (IsOrderedGate t.nodes) e is

  pub IsTable-added : length t.nodes < most_rows → IsAbsent t.nodes n → IsTable (pushed t n)
  IsTable-added room absent = record {
    zero_row = slice_get-left t.nodes (n ∷ []) 0 node.Zero table.zero_row;
    one_row = slice_get-left t.nodes (n ∷ []) 1 node.One table.one_row;
    input_rows = λ i lt. slice_get-left t.nodes (n ∷ []) (2 + i) (node.Input i) (table.input_rows i lt);
    random_rows = λ i lt. slice_get-left t.nodes (n ∷ []) (2 + t.inputs + i) (node.Random i) (table.random_rows i lt);
    input_once = λ row i. each_row t.nodes n row (λ m. m ≡ node.Input i → (i < t.inputs) × (row ≡ 2 + i)) (λ p. table.input_once row i) (λ at e. absurd (not_Input t.nodes n i is e)) (λ e. cc);
    random_once = λ row i. each_row t.nodes n row (λ m. m ≡ node.Random i → (i < t.randoms) × (row ≡ 2 + t.inputs + i)) (λ p. table.random_once row i) (λ at e. absurd (not_Random t.nodes n i is e)) (λ e. cc);
    earlier = λ row. each_row t.nodes n row (λ m. (side : ℕ) → IsTrue (has (sides m) side) → side < row) (λ p. table.earlier row)
        (λ at. sides-from_below row n (subst (λ k. SidesBelow k n) (sym at) (ordered-below t.nodes n is))) (λ side h. cc);
    and_ordered = λ row a b. each_row t.nodes n row (λ m. m ≡ node.And a b → term_cmp (term_at (terms (t.nodes ++ n ∷ [])) a.0) (term_at (terms (t.nodes ++ n ∷ [])) b.0) ≡ Less)
        (λ p e. let below : SidesBelow row (node.And a b) = subst (SidesBelow row) e (row-below t table row) in old_order a b (omega arith) (omega arith) (table.and_ordered row a b e))
        (λ at e. let p = ordered-And a b e in old_order a b p.0 p.1 p.2) (λ e. cc);
    xor_ordered = λ row a b. each_row t.nodes n row (λ m. m ≡ node.Xor a b → term_cmp (term_at (terms (t.nodes ++ n ∷ [])) a.0) (term_at (terms (t.nodes ++ n ∷ [])) b.0) ≡ Less)
        (λ p e. let below : SidesBelow row (node.Xor a b) = subst (SidesBelow row) e (row-below t table row) in old_order a b (omega arith) (omega arith) (table.xor_ordered row a b e))
        (λ at e. let p = ordered-Xor a b e in old_order a b p.0 p.1 p.2) (λ e. cc);
    distinct = λ row other rl ol e.
        let apart = subst AreDistinct (sym (terms-push t.nodes n)) (AreDistinct-push (terms t.nodes) (term_of (terms t.nodes) n) (row-distinct t table) (new_term absent)) in
        apart row other (omega (arith, length-terms (t.nodes ++ n ∷ []))) (omega (arith, length-terms (t.nodes ++ n ∷ []))) e;
    few = omega (arith, length_push t.nodes n);
  }

  pub IsRowOf-added : IsRowOf (t.nodes ++ n ∷ []) (length t.nodes) (term_of (terms t.nodes) n)
  IsRowOf-added = record {
    within = omega (arith, length_push t.nodes n);
    term = ap (λ ts. term_at ts (length t.nodes)) (terms-push t.nodes n) ∙ get_or_push (terms t.nodes) (term_of (terms t.nodes) n) Zero (length t.nodes) (length-terms t.nodes);
  }
