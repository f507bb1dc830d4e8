-- What the row of an input leaf is simulatable from has the leaf.
use Rattle.std.proofs.Common.{◌≡◌, ℕ, zero, suc, ◌+◌, ◌≤◌, Bool, true, false, cond, List, [], ◌∷◌, refl, sym, ap, ◌∙◌, subst, arith, ⊎_elim}
use Rattle.std.specs.Option.{is_some}
use Rattle.std.proofs.lemmas.Bool.{cases_Bool, both_ways}
use Rattle.expr_table.specs.declared.instance.Instance.{Instance}
use Rattle.expr_table.specs.declared.node.Node.TheVariants as node
use Rattle.expr_table.specs.Instance.{IsFitting}
use Rattle.expr_table.specs.Table.{IsTable}
use Rattle.expr_table.specs.Values.{bit}
use Rattle.expr_table.proofs.Facts.{node_at-slice_get}
use Rattle.count_law.specs.Counts.{are_same_bits}
use Rattle.count_law.specs.Instances.{AreSimulatableRows}
use Rattle.count_law.specs.RowCounts.{row_value, row_values, count_of_rows}
use Rattle.once_random.specs.Groups.{group_at}
use Rattle.count_law.proofs.Counting.{total, total-same, total-none, one_at, count-total}
use Rattle.count_law.proofs.CutNodes.{node_value, row-value}
use Rattle.count_law.proofs.Dependence.{grouped-below}

-- the bits of which the one at this place alone is 1
only : ℕ → List Bool
only zero = true ∷ []
only (suc i) = false ∷ only i

only-here : (i : ℕ) → bit (only i) i ≡ true
unfolding only
only-here zero = refl
only-here (suc i) = only-here i

no_bit : (j : ℕ) → bit [] j ≡ false
no_bit zero = refl
no_bit (suc j) = refl

only-other : (i j : ℕ) → (j ≡ i → ⊥) → bit [] j ≡ bit (only i) j
unfolding only
only-other zero zero other = absurd (other refl)
only-other zero (suc j) other = sym (no_bit j)
only-other (suc i) zero other = refl
only-other (suc i) (suc j) other = sym (no_bit j) ∙ only-other i j (λ e. other (ap suc e))

abbrev one_if : Bool → ℕ
one_if b = cond b 1 0

one_if-same : (b : Bool) → one_if (are_same_bits (b ∷ []) (true ∷ [])) ≡ one_if b
one_if-same true = refl
one_if-same false = refl

some_list : (n : ℕ) → 1 ≤ total n (λ w. 1)
some_list zero = omega arith
some_list (suc n) = omega (arith, some_list n)

-- what simulates the row of an input leaf with a group has the leaf
module _ (x : Instance) (i : ℕ) (table : IsTable x.table) (fitting : IsFitting x) (some : is_some (group_at x.groups i) ≡ true) where
  leaf_value : (inputs w : List Bool) → row_value x.table.nodes inputs w (2 + i) ≡ bit inputs i
  leaf_value inputs w =
      let lt = grouped-below x.groups i some in
      let at = node_at-slice_get x.table.nodes (2 + i) (node.Input i) (table.input_rows i (omega (arith, lt, fitting.one_group_each))) in
      row-value x.table.nodes table.earlier inputs w (2 + i) at.0 ∙ ap (node_value inputs w (row_value x.table.nodes inputs w)) at.1

  seen : (inputs : List Bool) (b : Bool) → bit inputs i ≡ b → count_of_rows x.table ((2 + i) ∷ []) inputs (true ∷ []) ≡ total x.table.randoms (λ w. one_if b)
  seen inputs b is =
      count-total x.table.randoms (row_values x.table.nodes ((2 + i) ∷ []) inputs) (true ∷ [])
      ∙ total-same x.table.randoms (one_at (row_values x.table.nodes ((2 + i) ∷ []) inputs) (true ∷ [])) (λ w. one_if b)
      (λ w. ap (λ v. one_if (are_same_bits (v ∷ []) (true ∷ []))) (leaf_value inputs w ∙ is) ∙ one_if-same b)

  pub leaf_needed : (set : ℕ → Bool) (m : ℕ) → AreSimulatableRows x ((2 + i) ∷ []) set m → set i ≡ true
  leaf_needed set m s =
      ⊎_elim (λ t. t)
      (λ f.
      let same = s.depends_on_it [] (only i) (true ∷ [])
      (λ j t. only-other i j (λ e. both_ways _ f (subst (λ q. set q ≡ true) e t)))
      (λ j lt none. only-other i j (λ e. both_ways _ none (subst (λ q. is_some (group_at x.groups q) ≡ true) (sym e) some))) in
      let never = seen [] false (no_bit i) ∙ total-none x.table.randoms in
      let always = seen (only i) true (only-here i) in
      let one = some_list x.table.randoms in
      absurd (contradiction _ _ _ never always same one))
      (cases_Bool (set i))
    where
      contradiction : (a b k : ℕ) → a ≡ 0 → b ≡ k → a ≡ b → 1 ≤ k → ⊥
      contradiction a b k e f g h = omega arith
