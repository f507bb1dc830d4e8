-- What callers cite of tables.
use Rattle.std.proofs.Common.{◌≡◌, ℕ, ◌<◌, ◌≤◌, List, ◌++◌, length, slice_get, Some, Less, Equal, sym, ap, ◌∙◌, subst, arith, length-append}
use Rattle.std.proofs.lemmas.List.{append_assoc, get_or_append_left}
use Rattle.std.proofs.lemmas.Option.{get_or_from_slice_get, slice_get_within}
use Rattle.expr_table.specs.declared.node.Node.{Node}
use Rattle.expr_table.specs.declared.node.Row.{Row}
use Rattle.expr_table.specs.declared.node.Node.TheVariants as node
use Rattle.expr_table.specs.Term.{Term, term_cmp}
use Rattle.expr_table.specs.Table.{Table, IsTable, IsRowOf, Extends, node_at, terms, term_at, term_of, row_with}
use Rattle.expr_table.proofs.Order.{cmp_self}
use Rattle.expr_table.proofs.Rows as rows
use Rattle.expr_table.proofs.Added.{slice_get-left}
use Rattle.expr_table.proofs.Determined.{row_with-at}
-- the terms of a list and where they stand, the rows of a new table, the values of the gates
pub use Rattle.expr_table.proofs.Order.{is_same-exact, is_same-equal}
pub use Rattle.expr_table.proofs.Rows.{length-terms, term_at-append, has_term-row, with_term-there, with_term-absent, Extends-self}
pub use Rattle.expr_table.proofs.Leaves.{length-leaves}
pub use Rattle.expr_table.proofs.Values.{eval-xor_of, eval-and_of, xor-self, xor-false, xor-turned}

-- a term is not less than itself
not_below_itself : (s t : Term) → s ≡ t → term_cmp s t ≡ Less → ⊥
not_below_itself s t e less = let same : term_cmp s t ≡ Equal = ap (term_cmp s) (sym e) ∙ cmp_self s in cc

module _ (t : Table) (table : IsTable t) where
  -- the sides of a gate differ
  pub Xor-sides_differ : (row : ℕ) (a b : Row) → node_at t.nodes row ≡ node.Xor a b → a.0 ≡ b.0 → ⊥
  Xor-sides_differ row a b e same = not_below_itself _ _ (ap (term_at (terms t.nodes)) same) (table.xor_ordered row a b e)

  pub And-sides_differ : (row : ℕ) (a b : Row) → node_at t.nodes row ≡ node.And a b → a.0 ≡ b.0 → ⊥
  And-sides_differ row a b e same = not_below_itself _ _ (ap (term_at (terms t.nodes)) same) (table.and_ordered row a b e)

  -- and are earlier rows
  pub Xor-sides_earlier : (row : ℕ) (a b : Row) → node_at t.nodes row ≡ node.Xor a b → (a.0 < row) × (b.0 < row)
  Xor-sides_earlier row a b e = subst (rows.SidesBelow row) e (rows.row-below t table row)

  pub And-sides_earlier : (row : ℕ) (a b : Row) → node_at t.nodes row ≡ node.And a b → (a.0 < row) × (b.0 < row)
  And-sides_earlier row a b e = subst (rows.SidesBelow row) e (rows.row-below t table row)

  -- a row's term is that of its node
  pub term_at-node : (row : ℕ) → row < length t.nodes → term_at (terms t.nodes) row ≡ term_of (terms t.nodes) (node_at t.nodes row)
  term_at-node = rows.row-term t table

  pub IsRowOf-node : (row : ℕ) (n : Node) → slice_get t.nodes row ≡ Some n → IsRowOf t.nodes row (term_of (terms t.nodes) n)
  IsRowOf-node = rows.IsRowOf-node t table

  -- a term has one row
  pub same_row : (row other : ℕ) (s : Term) → IsRowOf t.nodes row s → IsRowOf t.nodes other s → row ≡ other
  same_row row other s first second = table.distinct row other first.within second.within (first.term ∙ sym second.term)

  -- and it is where the term stands among the terms
  pub row_with-row : (row : ℕ) (s : Term) → IsRowOf t.nodes row s → row_with (terms t.nodes) s ≡ row
  row_with-row row s is =
      ap (row_with (terms t.nodes)) (sym is.term) ∙ row_with-at (terms t.nodes) (rows.row-distinct t table) row (omega (arith, is.within, length-terms t.nodes))

-- a row's node, by both words for it
pub node_at-slice_get : (ns : List Node) (row : ℕ) (n : Node) → slice_get ns row ≡ Some n → (row < length ns) × (node_at ns row ≡ n)
node_at-slice_get ns row n at = (slice_get_within ns row n at, get_or_from_slice_get ns row n node.Zero at)

module _ (old new : Table) (more : Extends old new) where
  -- old rows keep their nodes and their terms
  pub Extends-slice_get : (row : ℕ) (n : Node) → slice_get old.nodes row ≡ Some n → slice_get new.nodes row ≡ Some n
  Extends-slice_get row n at = ap (λ ns. slice_get ns row) more.nodes ∙ slice_get-left old.nodes more.more row n at

  pub Extends-node_at : (row : ℕ) → row < length old.nodes → node_at new.nodes row ≡ node_at old.nodes row
  Extends-node_at row lt = ap (λ ns. node_at ns row) more.nodes ∙ get_or_append_left old.nodes more.more node.Zero row lt

  pub Extends-term_at : (row : ℕ) → row < length old.nodes → term_at (terms new.nodes) row ≡ term_at (terms old.nodes) row
  Extends-term_at row lt = ap (λ ns. term_at (terms ns) row) more.nodes ∙ rows.term_at-append old.nodes more.more row lt

  pub Extends-length : length old.nodes ≤ length new.nodes
  Extends-length = omega (arith, ap length more.nodes, length-append old.nodes more.more)

  pub Extends-row : (row : ℕ) (s : Term) → IsRowOf old.nodes row s → IsRowOf new.nodes row s
  Extends-row row s is = record { within = omega (arith, is.within, Extends-length); term = Extends-term_at row is.within ∙ is.term }

pub Extends-trans : (a b c : Table) → Extends a b → Extends b c → Extends a c
Extends-trans a b c first second = record {
  same_inputs = second.same_inputs ∙ first.same_inputs;
  same_randoms = second.same_randoms ∙ first.same_randoms;
  more = first.more ++ second.more;
  nodes = second.nodes ∙ ap (λ ns. ns ++ second.more) first.nodes ∙ append_assoc a.nodes first.more second.more;
}
