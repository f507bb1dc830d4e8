-- The map from nodes to their rows.
use Rattle.std.proofs.Common.{◌≡◌, ℕ, zero, suc, Bool, true, ◌<◌, ◌+◌, List, [], ◌∷◌, ◌++◌, length, None, Some, refl, sym, ap, ◌∙◌, subst, arith, true≢false, ⊎_elim}
use Rattle.std.proofs.lemmas.Bool.{cases_Bool, cond-true, cond-false}
use Rattle.std.proofs.lemmas.Bool.Decides.{nat_tests}
use Rattle.std.proofs.lemmas.List.{length-map, map-append}
use Rattle.std.specs.Map.{lookup, keys_of}
use Rattle.expr_table.specs.contracts.node.NodePartialEq.TheImpl.{eq-value}
use Rattle.expr_table.specs.declared.node.Node.{Node}
use Rattle.expr_table.specs.declared.node.Node.TheVariants as node
use Rattle.expr_table.specs.Interning.{numbered, IsNumbered, IsAbsent}
use Rattle.expr_table.specs.Table.{node_at}

abbrev pub same_node : Node → Node → Bool
same_node = eq-value.it

-- nodes that compare equal are one
pub exact : (a b : Node) → same_node a b ≡ true → a ≡ b
exact node.Zero node.Zero h = refl
exact node.One node.One h = refl
exact (node.Input i) (node.Input j) h = grind (arith, nat_tests)
exact (node.Random i) (node.Random j) h = grind (arith, nat_tests)
exact (node.And a b) (node.And c d) h = grind (arith, nat_tests)
exact (node.Xor a b) (node.Xor c d) h = grind (arith, nat_tests)
exact _ _ h = absurd (true≢false (sym h))

pub same_self : (a : Node) → same_node a a ≡ true
same_self node.Zero = refl
same_self node.One = refl
same_self (node.Input i) = grind (arith, nat_tests)
same_self (node.Random i) = grind (arith, nat_tests)
same_self (node.And a b) = grind (arith, nat_tests)
same_self (node.Xor a b) = grind (arith, nat_tests)

pub keys_of-numbered : (first : ℕ) (ns : List Node) → keys_of (numbered first ns) ≡ ns
keys_of-numbered first [] = refl
keys_of-numbered first (m ∷ ns) = ap (λ l. m ∷ l) (keys_of-numbered (first + 1) ns)

module _ (n : Node) where
  -- a node found among numbered nodes is the one at its place
  pub found : (first : ℕ) (ns : List Node) (v : ℕ) → lookup (same_node n) (numbered first ns) ≡ Some v → (i : ℕ) × (v ≡ first + i) × (i < length ns) × (node_at ns i ≡ n)
  found first [] v h = cc
  found first (m ∷ ns) v h =
      ⊎_elim (λ e. let at : Some first ≡ Some v = sym (cond-true (same_node n m) (Some first) _ e) ∙ h in (0, grind arith, omega arith, sym (exact n m e)))
      (λ e. let rest = found (first + 1) ns v (sym (cond-false (same_node n m) (Some first) _ e) ∙ h) in (rest.0 + 1, omega arith, omega arith, grind (arith, rest.3)))
      (cases_Bool (same_node n m))

  -- a node that isn't found stands nowhere
  pub absent : (first : ℕ) (ns : List Node) → lookup (same_node n) (numbered first ns) ≡ None → IsAbsent ns n
  absent first [] h i lt e = omega arith
  absent first (m ∷ ns) h zero lt e =
      let t : same_node n m ≡ true = subst (λ k. same_node n k ≡ true) (sym e) (same_self n) in
      let at : Some first ≡ None = sym (cond-true (same_node n m) (Some first) _ t) ∙ h in cc
  absent first (m ∷ ns) h (suc i) lt e =
      ⊎_elim (λ t. let at : Some first ≡ None = sym (cond-true (same_node n m) (Some first) _ t) ∙ h in cc)
      (λ t. absent (first + 1) ns (sym (cond-false (same_node n m) (Some first) _ t) ∙ h) i (omega arith) e)
      (cases_Bool (same_node n m))

  -- and one that stands nowhere isn't found
  pub not_found : (first : ℕ) (ns : List Node) → IsAbsent ns n → lookup (same_node n) (numbered first ns) ≡ None
  not_found first [] h = refl
  not_found first (m ∷ ns) h =
      ⊎_elim (λ t. absurd (h 0 (omega arith) (sym (exact n m t))))
      (λ t. cond-false (same_node n m) (Some first) _ t ∙ not_found (first + 1) ns (λ i lt e. h (suc i) (omega arith) e))
      (cases_Bool (same_node n m))

  pub numbered-push : (first : ℕ) (ns : List Node) → numbered first (ns ++ n ∷ []) ≡ numbered first ns ++ (n, first + length ns) ∷ []
  numbered-push first [] = ap (λ k. (n, k) ∷ []) (omega arith)
  numbered-push first (m ∷ ns) =
      let shift : first + 1 + length ns ≡ first + suc (length ns) = omega arith in
      ap (λ l. (m, first) ∷ l) (numbered-push (first + 1) ns ∙ ap (λ k. numbered (first + 1) ns ++ (n, k) ∷ []) shift)

module _ (entries : List (Node × ℕ)) (is : IsNumbered entries) (n : Node) where
  pub row-found : (v : ℕ) → lookup (same_node n) entries ≡ Some v → (v < length (keys_of entries)) × (node_at (keys_of entries) v ≡ n)
  row-found v h =
      let at = found n 0 (keys_of entries) v (sym (ap (lookup (same_node n)) is) ∙ h) in
      let here : v ≡ at.0 = omega arith in
      (omega arith, ap (node_at (keys_of entries)) here ∙ at.3)

  pub row-absent : lookup (same_node n) entries ≡ None → IsAbsent (keys_of entries) n
  row-absent h = absent n 0 (keys_of entries) (sym (ap (lookup (same_node n)) is) ∙ h)

  pub lookup-absent : IsAbsent (keys_of entries) n → lookup (same_node n) entries ≡ None
  lookup-absent h = ap (lookup (same_node n)) is ∙ not_found n 0 (keys_of entries) h

  -- the entries with one more
  module _ (new : List (Node × ℕ)) (row : ℕ) (counted : row ≡ length entries) (made : new ≡ entries ++ (n, row) ∷ []) where
    pub keys_of-made : keys_of new ≡ keys_of entries ++ n ∷ []
    keys_of-made = ap keys_of made ∙ map-append (λ (e : Node × ℕ). e.0) entries ((n, row) ∷ [])

    pub IsNumbered-made : IsNumbered new
    IsNumbered-made =
        let len : row ≡ 0 + length (keys_of entries) = omega (arith, length-map entries (λ (e : Node × ℕ). e.0)) in
        made ∙ ap (λ l. l ++ (n, row) ∷ []) is ∙ ap (λ k. numbered 0 (keys_of entries) ++ (n, k) ∷ []) len
        ∙ sym (numbered-push n 0 (keys_of entries)) ∙ ap (numbered 0) (sym keys_of-made)

-- entries that are numbered nodes
module _ (entries : List (Node × ℕ)) (ns : List Node) (is : entries ≡ numbered 0 ns) where
  pub keys-numbered : keys_of entries ≡ ns
  keys-numbered = ap keys_of is ∙ keys_of-numbered 0 ns

  pub IsNumbered-numbered : IsNumbered entries
  IsNumbered-numbered = is ∙ ap (numbered 0) (sym keys-numbered)

pub numbered-keys : (entries : List (Node × ℕ)) (ns : List Node) → IsNumbered entries → keys_of entries ≡ ns → entries ≡ numbered 0 ns
numbered-keys entries ns is keys = is ∙ ap (numbered 0) keys
