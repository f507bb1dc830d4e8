-- A table of the constants and the leaves alone.
use Rattle.std.proofs.Common.{◌≡◌, ℕ, zero, suc, IsTrue, ◌<◌, ◌≤◌, ◌+◌, ◌-◌, [], ◌∷◌, ◌++◌, length, Some, Less, refl, sym, ap, ◌∙◌, subst, arith, ⊎_elim, length-append}
use Rattle.std.proofs.lemmas.Bool.{cases_lt}
use Rattle.std.proofs.lemmas.List.{append-nil, append_assoc, get_or_append_left, get_or-append_right, get_or_past}
use Rattle.std.proofs.lemmas.Option.{slice_get-get_or}
use Rattle.expr_table.specs.declared.node.Node.{Node}
use Rattle.expr_table.specs.declared.node.Node.TheVariants as node
use Rattle.expr_table.specs.Term.{Term, Zero, One, Input, Random, And, Xor, term_cmp}
use Rattle.expr_table.specs.Table.{IsTable, most_rows, node_at, sides, has, terms, term_of, term_at, numbered_leaves, leaves, new_table}
use Rattle.expr_table.specs.Interning.{IsAbsent}
use Rattle.expr_table.proofs.Rows.{SidesBelow, term_at-node}

module _ (leaf : ℕ → Node) where
  length-numbered_leaves : (first n : ℕ) → length (numbered_leaves leaf first n) ≡ n
  length-numbered_leaves first zero = refl
  length-numbered_leaves first (suc n) = omega (arith, length-numbered_leaves (first + 1) n)

  numbered_leaves-at : (first n i : ℕ) → i < n → node_at (numbered_leaves leaf first n) i ≡ leaf (first + i)
  numbered_leaves-at first zero i lt = absurd (omega arith)
  numbered_leaves-at first (suc n) zero lt = ap leaf (omega arith)
  numbered_leaves-at first (suc n) (suc i) lt = numbered_leaves-at (first + 1) n i (omega arith) ∙ ap leaf (omega arith)

  numbered_leaves-push : (first n : ℕ) → numbered_leaves leaf first (suc n) ≡ numbered_leaves leaf first n ++ leaf (first + n) ∷ []
  numbered_leaves-push first zero = ap (λ k. leaf k ∷ []) (omega arith)
  numbered_leaves-push first (suc n) =
      let shift : first + 1 + n ≡ first + suc n = omega arith in
      ap (λ l. leaf first ∷ l) (numbered_leaves-push (first + 1) n ∙ ap (λ k. numbered_leaves leaf (first + 1) n ++ leaf k ∷ []) shift)

-- one more input leaf, where there is no random leaf yet
pub leaves-input : (i : ℕ) → leaves (i + 1) 0 ≡ leaves i 0 ++ node.Input i ∷ []
leaves-input i =
    let next : i + 1 ≡ suc i = omega arith in
    let here : 0 + i ≡ i = omega arith in
    ap (λ k. leaves k 0) next
    ∙ append-nil (node.Zero ∷ node.One ∷ numbered_leaves node.Input 0 (suc i))
    ∙ ap (λ l. node.Zero ∷ node.One ∷ l) (numbered_leaves-push node.Input 0 i ∙ ap (λ k. numbered_leaves node.Input 0 i ++ node.Input k ∷ []) here)
    ∙ ap (λ l. l ++ node.Input i ∷ []) (sym (append-nil (node.Zero ∷ node.One ∷ numbered_leaves node.Input 0 i)))

-- one more random leaf
pub leaves-random : (inputs i : ℕ) → leaves inputs (i + 1) ≡ leaves inputs i ++ node.Random i ∷ []
leaves-random inputs i =
    let next : i + 1 ≡ suc i = omega arith in
    let here : 0 + i ≡ i = omega arith in
    let first = node.Zero ∷ node.One ∷ numbered_leaves node.Input 0 inputs in
    ap (leaves inputs) next
    ∙ ap (λ l. first ++ l) (numbered_leaves-push node.Random 0 i ∙ ap (λ k. numbered_leaves node.Random 0 i ++ node.Random k ∷ []) here)
    ∙ sym (append_assoc first (numbered_leaves node.Random 0 i) (node.Random i ∷ []))

pub length-leaves : (inputs randoms : ℕ) → length (leaves inputs randoms) ≡ 2 + inputs + randoms
length-leaves inputs randoms =
    omega (arith, length-append (node.Zero ∷ node.One ∷ numbered_leaves node.Input 0 inputs) (numbered_leaves node.Random 0 randoms), length-numbered_leaves node.Input 0 inputs, length-numbered_leaves node.Random 0 randoms)

module _ (inputs randoms : ℕ) where
  pub input-at : (i : ℕ) → i < inputs → node_at (leaves inputs randoms) (2 + i) ≡ node.Input i
  input-at i lt =
      let next : 2 + i ≡ suc (suc i) = omega arith in
      let here : 0 + i ≡ i = omega arith in
      ap (node_at (leaves inputs randoms)) next
      ∙ get_or_append_left (numbered_leaves node.Input 0 inputs) (numbered_leaves node.Random 0 randoms) node.Zero i (omega (arith, length-numbered_leaves node.Input 0 inputs))
      ∙ numbered_leaves-at node.Input 0 inputs i lt ∙ ap node.Input here

  pub random-at : (i : ℕ) → i < randoms → node_at (leaves inputs randoms) (2 + inputs + i) ≡ node.Random i
  random-at i lt =
      let next : 2 + inputs + i ≡ suc (suc (inputs + i)) = omega arith in
      let here : 0 + (inputs + i - inputs) ≡ i = omega arith in
      ap (node_at (leaves inputs randoms)) next
      ∙ get_or-append_right (numbered_leaves node.Input 0 inputs) (numbered_leaves node.Random 0 randoms) inputs (inputs + i) node.Zero (length-numbered_leaves node.Input 0 inputs) (omega arith)
      ∙ numbered_leaves-at node.Random 0 randoms (inputs + i - inputs) (omega arith) ∙ ap node.Random here

  -- what holds of the constants and the leaves at their rows holds of each row
  each_leaf : (row : ℕ) (P : Node → Type 0) → ((row < 2 + inputs + randoms → row ≡ 0) → P node.Zero) → (row ≡ 1 → P node.One)
      → ((i : ℕ) → i < inputs → row ≡ 2 + i → P (node.Input i)) → ((i : ℕ) → i < randoms → row ≡ 2 + inputs + i → P (node.Random i)) → P (node_at (leaves inputs randoms) row)
  each_leaf zero P none one input random = none (λ _. refl)
  each_leaf (suc zero) P none one input random = one refl
  each_leaf (suc (suc r)) P none one input random =
      ⊎_elim
      (λ p. let at : 2 + r ≡ suc (suc r) = omega arith in subst P (sym (input-at r p) ∙ ap (node_at (leaves inputs randoms)) at) (input r p (sym at)))
      (λ p. ⊎_elim
      (λ q. let at : 2 + inputs + (r - inputs) ≡ suc (suc r) = omega arith in subst P (sym (random-at (r - inputs) q) ∙ ap (node_at (leaves inputs randoms)) at) (random (r - inputs) q (sym at)))
      (λ q. subst P (sym (get_or_past (leaves inputs randoms) (suc (suc r)) node.Zero (omega (arith, length-leaves inputs randoms)))) (none (λ lt. absurd (omega arith))))
      (cases_lt (r - inputs) randoms))
      (cases_lt r inputs)

  pub leaf-below : (row : ℕ) → SidesBelow row (node_at (leaves inputs randoms) row)
  leaf-below row = each_leaf row (SidesBelow row) (λ _. tt) (λ _. tt) (λ i lt at. tt) (λ i lt at. tt)

  pub leaf-input_once : (row i : ℕ) → node_at (leaves inputs randoms) row ≡ node.Input i → (i < inputs) × (row ≡ 2 + i)
  leaf-input_once row i =
      each_leaf row (λ m. m ≡ node.Input i → (i < inputs) × (row ≡ 2 + i)) (λ _ e. cc) (λ _ e. cc)
      (λ j lt at e. let same : j ≡ i = cc in (omega arith, omega arith)) (λ j lt at e. cc)

  pub leaf-random_once : (row i : ℕ) → node_at (leaves inputs randoms) row ≡ node.Random i → (i < randoms) × (row ≡ 2 + inputs + i)
  leaf-random_once row i =
      each_leaf row (λ m. m ≡ node.Random i → (i < randoms) × (row ≡ 2 + inputs + i)) (λ _ e. cc) (λ _ e. cc)
      (λ j lt at e. cc) (λ j lt at e. let same : j ≡ i = cc in (omega arith, omega arith))

  -- the row that a leaf's term has
  row_of : Term → ℕ
  row_of Zero = 0
  row_of One = 1
  row_of (Input i) = 2 + i
  row_of (Random i) = 2 + inputs + i
  row_of (And a b) = 0
  row_of (Xor a b) = 0

  row_of-row : (row : ℕ) → row < length (leaves inputs randoms) → row_of (term_at (terms (leaves inputs randoms)) row) ≡ row
  unfolding row_of
  row_of-row row lt =
      ap row_of (term_at-node (leaves inputs randoms) leaf-below row lt)
      ∙ each_leaf row (λ m. row_of (term_of (terms (leaves inputs randoms)) m) ≡ row) (λ first. sym (first (omega (arith, length-leaves inputs randoms)))) (λ at. sym at) (λ i il at. sym at) (λ i il at. sym at)

  pub IsTable-new : 2 + inputs + randoms ≤ most_rows → IsTable (new_table inputs randoms)
  IsTable-new few = record {
    zero_row = refl;
    one_row = refl;
    input_rows = λ i lt. slice_get-get_or (leaves inputs randoms) (2 + i) node.Zero (omega (arith, length-leaves inputs randoms)) ∙ ap Some (input-at i lt);
    random_rows = λ i lt. slice_get-get_or (leaves inputs randoms) (2 + inputs + i) node.Zero (omega (arith, length-leaves inputs randoms)) ∙ ap Some (random-at i lt);
    input_once = leaf-input_once;
    random_once = leaf-random_once;
    earlier = λ row. each_leaf row (λ m. (side : ℕ) → IsTrue (has (sides m) side) → side < row) (λ _ side h. cc) (λ _ side h. cc) (λ i lt at side h. cc) (λ i lt at side h. cc);
    and_ordered = λ row a b. each_leaf row (λ m. m ≡ node.And a b → term_cmp (term_at (terms (leaves inputs randoms)) a.0) (term_at (terms (leaves inputs randoms)) b.0) ≡ Less) (λ _ e. cc) (λ _ e. cc) (λ i lt at e. cc) (λ i lt at e. cc);
    xor_ordered = λ row a b. each_leaf row (λ m. m ≡ node.Xor a b → term_cmp (term_at (terms (leaves inputs randoms)) a.0) (term_at (terms (leaves inputs randoms)) b.0) ≡ Less) (λ _ e. cc) (λ _ e. cc) (λ i lt at e. cc) (λ i lt at e. cc);
    distinct = λ row other rl ol e. sym (row_of-row row rl) ∙ ap row_of e ∙ row_of-row other ol;
    few = omega (arith, length-leaves inputs randoms);
  }

-- the next leaf is not there yet
pub absent-input : (i : ℕ) → IsAbsent (leaves i 0) (node.Input i)
absent-input i row lt e = let once = leaf-input_once i 0 row i e in omega arith

pub absent-random : (inputs i : ℕ) → IsAbsent (leaves inputs i) (node.Random i)
absent-random inputs i row lt e = let once = leaf-random_once inputs i row i e in omega arith
