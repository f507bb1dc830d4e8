-- One step of a comparison.
use Rattle.std.proofs.Common.{◌≡◌, ℕ, ◌<◌, length, sym, ap, ◌∙◌, subst, arith, ⊎_elim, ◌==◌}
use Rattle.std.specs.Ordering.{ordering_then}
use Rattle.std.proofs.lemmas.Bool.{cases_eq, cond-true, cond-false, eq-eqb, ne_eqb}
use Rattle.expr_table.specs.declared.node.Node.{Node}
use Rattle.expr_table.specs.declared.node.Row.{Row}
use Rattle.expr_table.specs.declared.node.Node.TheVariants as node
use Rattle.expr_table.specs.declared.table.compare.Step.TheVariants.{Deeper}
use Rattle.expr_table.specs.Term.{Term, term_cmp}
use Rattle.expr_table.specs.Table.{Table, IsTable, node_at, terms, term_at, term_of}
use Rattle.expr_table.specs.Steps.{Compares, differing_sides, next_step}
use Rattle.expr_table.proofs.Order.{then_same, then_other}
use Rattle.expr_table.proofs.Rows.{SidesBelow, row-below, row-term}

module _ (t : Table) (table : IsTable t) where
  abbrev at : ℕ → Term
  at row = term_at (terms t.nodes) row

  deeper : (a b : ℕ) (p q r s : Row) → a < length t.nodes → b < length t.nodes → (p.0 < a) × (q.0 < a) → (r.0 < b) × (s.0 < b)
      → term_cmp (at a) (at b) ≡ ordering_then (term_cmp (at p.0) (at r.0)) (term_cmp (at q.0) (at s.0)) → Compares t.nodes a b (differing_sides p q r s)
  deeper a b p q r s al bl below below' is =
      ⊎_elim
      (λ same. subst (Compares t.nodes a b) (sym (cond-true (p.0 == r.0) (Deeper q s) (Deeper p r) (eq-eqb p.0 r.0 same)))
      (below.1, below'.1, sym (is ∙ then_same (at p.0) (at r.0) (term_cmp (at q.0) (at s.0)) (ap at same))))
      (λ other. subst (Compares t.nodes a b) (sym (cond-false (p.0 == r.0) (Deeper q s) (Deeper p r) (ne_eqb p.0 r.0 other)))
      (below.0, below'.0, sym (is ∙ then_other (at p.0) (at r.0) (term_cmp (at q.0) (at s.0)) (λ e. other (table.distinct p.0 r.0 (omega arith) (omega arith) e)))))
      (cases_eq p.0 r.0)

  both : {s u v w : Term} → s ≡ v → u ≡ w → term_cmp s u ≡ term_cmp v w
  both e f = λ i. term_cmp (e i) (f i)

  compares-by : (a b : ℕ) → a < length t.nodes → b < length t.nodes → (m n : Node) → SidesBelow a m → SidesBelow b n → at a ≡ term_of (terms t.nodes) m → at b ≡ term_of (terms t.nodes) n → Compares t.nodes a b (next_step m n)
  compares-by a b al bl (node.And p q) (node.And r s) below below' e f = deeper a b p q r s al bl below below' (both e f)
  compares-by a b al bl (node.Xor p q) (node.Xor r s) below below' e f = deeper a b p q r s al bl below below' (both e f)
  compares-by a b al bl (node.Input i) (node.Input j) below below' e f = sym (both e f)
  compares-by a b al bl (node.Random i) (node.Random j) below below' e f = sym (both e f)
  compares-by a b al bl node.Zero node.Zero below below' e f = sym (both e f)
  compares-by a b al bl node.One node.One below below' e f = sym (both e f)
  compares-by a b al bl _ _ below below' e f = sym (both e f)

  pub compares : (a b : ℕ) → a < length t.nodes → b < length t.nodes → Compares t.nodes a b (next_step (node_at t.nodes a) (node_at t.nodes b))
  compares a b al bl =
      compares-by a b al bl (node_at t.nodes a) (node_at t.nodes b) (row-below t table a) (row-below t table b) (row-term t table a al) (row-term t table b bl)
