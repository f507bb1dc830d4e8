-- A table's nodes from its terms.
use Rattle.std.proofs.Common.{◌≡◌, ℕ, zero, suc, ◌<◌, List, [], ◌∷◌, length, map, refl, sym, ap, ◌∙◌, arith}
use Rattle.std.proofs.lemmas.Bool.{cond-true, cond-false}
use Rattle.expr_table.specs.declared.node.Node.{Node}
use Rattle.expr_table.specs.declared.node.Node.TheVariants as node
use Rattle.expr_table.specs.Term.{Term, is_same}
use Rattle.expr_table.specs.Table.{Table, IsTable, node_at, terms, term_at, term_of, row_with, node_of, nodes_of}
use Rattle.expr_table.proofs.Order.{is_same-equal, is_same-other}
use Rattle.expr_table.proofs.Rows.{SidesBelow, SidesBelow-weaker, AreDistinct, length-terms, row-below, row-term, row-distinct}

AreDistinct-tail : (s : Term) (ss : List Term) → AreDistinct (s ∷ ss) → AreDistinct ss
AreDistinct-tail s ss apart i j il jl e = let same = apart (suc i) (suc j) (omega arith) (omega arith) e in omega arith

-- a term of a list of distinct ones stands first where it stands
pub row_with-at : (ts : List Term) → AreDistinct ts → (i : ℕ) → i < length ts → row_with ts (term_at ts i) ≡ i
row_with-at [] apart i lt = absurd (omega arith)
row_with-at (s ∷ ss) apart zero lt = cond-true (is_same s s) 0 _ (is_same-equal s s refl)
row_with-at (s ∷ ss) apart (suc i) lt =
    cond-false (is_same s (term_at ss i)) 0 _ (is_same-other s (term_at ss i) (λ e. let same = apart 0 (suc i) (omega arith) lt e in omega arith))
    ∙ omega (arith, row_with-at ss (AreDistinct-tail s ss apart) i (omega arith))

-- a node is that of its term
node_of-term : (ts : List Term) → AreDistinct ts → (n : Node) → SidesBelow (length ts) n → node_of ts (term_of ts n) ≡ n
node_of-term ts apart node.Zero below = refl
node_of-term ts apart node.One below = refl
node_of-term ts apart (node.Input i) below = refl
node_of-term ts apart (node.Random i) below = refl
node_of-term ts apart (node.And a b) below =
    λ i. node.And (record { 0 = row_with-at ts apart a.0 below.0 i }) (record { 0 = row_with-at ts apart b.0 below.1 i })
node_of-term ts apart (node.Xor a b) below =
    λ i. node.Xor (record { 0 = row_with-at ts apart a.0 below.0 i }) (record { 0 = row_with-at ts apart b.0 below.1 i })

each_of : (f : Term → Node) (ns : List Node) (ts : List Term) → length ns ≡ length ts → ((i : ℕ) → i < length ns → node_at ns i ≡ f (term_at ts i)) → ns ≡ map f ts
each_of f [] [] len h = refl
each_of f [] (t ∷ ts) len h = absurd (omega arith)
each_of f (n ∷ ns) [] len h = absurd (omega arith)
each_of f (n ∷ ns) (t ∷ ts) len h = let first = h 0 (omega arith) in let rest = each_of f ns ts (omega arith) (λ i lt. h (suc i) (omega arith)) in λ i. first i ∷ rest i

pub nodes-from_terms : (t : Table) → IsTable t → t.nodes ≡ nodes_of (terms t.nodes)
nodes-from_terms t table =
    each_of (node_of (terms t.nodes)) t.nodes (terms t.nodes) (sym (length-terms t.nodes)) (λ i lt.
    let below = SidesBelow-weaker i (length (terms t.nodes)) (node_at t.nodes i) (omega (arith, length-terms t.nodes)) (row-below t table i) in
    sym (ap (node_of (terms t.nodes)) (row-term t table i lt) ∙ node_of-term (terms t.nodes) (row-distinct t table) (node_at t.nodes i) below))
