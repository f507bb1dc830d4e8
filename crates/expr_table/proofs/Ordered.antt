-- Gates with the lesser term first.
use Rattle.std.proofs.Common.{◌≡◌, ℕ, ◌<◌, length, Less, Equal, Greater, ◌⊎◌, ⊎_elim, sym, ap, Ordering, refl, ◌∙◌}
use Rattle.std.specs.Ordering.{is_gt, ordering_reverse}
use Rattle.std.proofs.lemmas.Bool.{cond-true, cond-false}
use Rattle.expr_table.specs.declared.node.Row.{Row}
use Rattle.expr_table.specs.declared.table.gate.Gate.{Gate}
use Rattle.expr_table.specs.declared.table.gate.Gate.TheVariants as gate
use Rattle.expr_table.specs.Term.{Term, And, Xor, term_cmp}
use Rattle.expr_table.specs.Table.{Table, IsTable, terms, term_at, term_of}
use Rattle.expr_table.specs.Gates.{gate_node, ordered_gate}
use Rattle.expr_table.specs.Interning.{AreOrdered, IsOrderedGate}
use Rattle.expr_table.proofs.Order.{cmp_exact, cmp_antisymm, Less-from_Greater}

-- the gate of two terms as they stand
abbrev pub gate_term : Gate → Term → Term → Term
gate_term gate.And a b = And a b
gate_term gate.Xor a b = Xor a b

pub ordered_gate-Greater : (g : Gate) (a b : Term) → term_cmp a b ≡ Greater → ordered_gate g a b ≡ gate_term g b a
ordered_gate-Greater gate.And a b e = cond-true (is_gt (term_cmp a b)) (And b a) (And a b) (ap is_gt e)
ordered_gate-Greater gate.Xor a b e = cond-true (is_gt (term_cmp a b)) (Xor b a) (Xor a b) (ap is_gt e)

pub ordered_gate-Less : (g : Gate) (a b : Term) → term_cmp a b ≡ Less → ordered_gate g a b ≡ gate_term g a b
ordered_gate-Less gate.And a b e = cond-false (is_gt (term_cmp a b)) (And b a) (And a b) (ap is_gt e)
ordered_gate-Less gate.Xor a b e = cond-false (is_gt (term_cmp a b)) (Xor b a) (Xor a b) (ap is_gt e)

-- of two terms that differ, either may be given first
pub ordered_gate-turned : (g : Gate) (a b : Term) → (a ≡ b → ⊥) → ordered_gate g a b ≡ ordered_gate g b a
ordered_gate-turned g a b other = by (term_cmp a b) refl
  where
    by : (o : Ordering) → term_cmp a b ≡ o → ordered_gate g a b ≡ ordered_gate g b a
    by Less e = ordered_gate-Less g a b e ∙ sym (ordered_gate-Greater g b a (cmp_antisymm b a ∙ ap ordering_reverse e))
    by Greater e = ordered_gate-Greater g a b e ∙ sym (ordered_gate-Less g b a (cmp_antisymm b a ∙ ap ordering_reverse e))
    by Equal e = absurd (other (cmp_exact a b e))

module _ (t : Table) (table : IsTable t) where
  abbrev at : Row → Term
  at row = term_at (terms t.nodes) row.0

  -- rows that differ, in the order of their terms
  pub in_order : (a b : Row) → a.0 < length t.nodes → b.0 < length t.nodes → (a ≡ b → ⊥) → (term_cmp (at a) (at b) ≡ Less) ⊎ (term_cmp (at a) (at b) ≡ Equal) → AreOrdered t.nodes a b
  in_order a b al bl other e =
      let apart = λ (same : at a ≡ at b). other (ap (λ (n : ℕ). record { 0 = n }) (table.distinct a.0 b.0 al bl same)) in
      (al, bl, ⊎_elim (λ less. less) (λ equal. absurd (apart (cmp_exact (at a) (at b) equal))) e)

  pub turned : (a b : Row) → a.0 < length t.nodes → b.0 < length t.nodes → term_cmp (at a) (at b) ≡ Greater → AreOrdered t.nodes b a
  turned a b al bl e = (bl, al, Less-from_Greater (at a) (at b) e)

  pub IsOrderedGate-gate : (g : Gate) (a b : Row) → AreOrdered t.nodes a b → IsOrderedGate t.nodes (gate_node g a b)
  IsOrderedGate-gate gate.And a b are = are
  IsOrderedGate-gate gate.Xor a b are = are

  pub term-in_order : (g : Gate) (a b : Row) → AreOrdered t.nodes a b → term_of (terms t.nodes) (gate_node g a b) ≡ ordered_gate g (at a) (at b)
  term-in_order gate.And a b are = sym (ordered_gate-Less gate.And (at a) (at b) are.2)
  term-in_order gate.Xor a b are = sym (ordered_gate-Less gate.Xor (at a) (at b) are.2)

  pub term-turned : (g : Gate) (a b : Row) → term_cmp (at a) (at b) ≡ Greater → term_of (terms t.nodes) (gate_node g b a) ≡ ordered_gate g (at a) (at b)
  term-turned gate.And a b e = sym (ordered_gate-Greater gate.And (at a) (at b) e)
  term-turned gate.Xor a b e = sym (ordered_gate-Greater gate.Xor (at a) (at b) e)
