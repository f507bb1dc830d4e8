use Rattle.std.proofs.Common.{◌≡◌, ℕ, ◌∷◌, ◌++◌, [], length, sym, ap, ◌∙◌, subst, arith, rules}
use Rattle.std.proofs.lemmas.Grind.{common_steps}
use Rattle.std.proofs.lemmas.List.{length-map}
use Rattle.indexmap.specs.IndexMap.{keys}
use Rattle.expr_table.specs.declared.node.Node.{Node}
use Rattle.expr_table.specs.Table.{Table, IsTable, IsRowOf, terms, term_of, with_term}
use Rattle.expr_table.specs.Interning.{IsAbsent, IsOrderedGate}
use Rattle.expr_table.proofs.Rows.{IsRowOf-at}
use Rattle.expr_table.proofs.Keys.{row-found, row-absent}
use Rattle.expr_table.proofs.Added.{has_term-new, terms-added, IsTable-added, IsRowOf-added}
use Rattle.expr_table.proofs.Interned.{Interns-there, Interns-full}
use Rattle.expr_table.proofs.table.ExprTable.intern.Goals as goal

pub returns-in-Some : goal.returns-in-Some
returns-in-Some c =
    let at = row-found c.self.inside.rows.entries c.self.invariant.0 c.args.node c.in-Some.row.now (sym c.in-Some.ensures.value) in
    Interns-there c.args.self.now (subst IsTable c.self.view_is c.self.invariant.1) (term_of (terms c.args.self.now.nodes) c.args.node) (record { 0 = c.in-Some.row.now })
    (subst (λ (t : Table). IsRowOf t.nodes c.in-Some.row.now (term_of (terms t.nodes) c.args.node)) c.self.view_is
    (IsRowOf-at _ c.self.invariant.1 c.in-Some.row.now c.args.node at.0 at.1))

pub returns-then-len-ge-MOST_ROWS : goal.returns-then-len-ge-MOST_ROWS
returns-then-len-ge-MOST_ROWS c =
    let absent : IsAbsent c.args.self.now.nodes c.args.node =
    subst (λ (t : Table). IsAbsent t.nodes c.args.node) c.self.view_is (row-absent c.self.inside.rows.entries c.self.invariant.0 c.args.node (sym c.in_default.ensures.value)) in
    let table : IsTable c.args.self.now = subst IsTable c.self.view_is c.self.invariant.1 in
    let rows : c.len.result ≡ length c.args.self.now.nodes = c.len.ensures.len ∙ sym (length-map c.self.inside.rows.entries (λ (e : Node × ℕ). e.0)) ∙ ap (λ (t : Table). length t.nodes) c.self.view_is in
    Interns-full c.args.self.now table (term_of (terms c.args.self.now.nodes) c.args.node) (has_term-new c.args.self.now c.args.node table c.requires absent) (omega (arith, table.few))

pub add-requires-clause-absent : goal.add-requires-clause-absent
add-requires-clause-absent c = row-absent c.self.inside.rows.entries c.self.invariant.0 c.args.node (sym c.in_default.ensures.value)

pub returns-in_err-row : goal.returns-in_err-row
returns-in_err-row c =
    let absent : IsAbsent c.args.self.now.nodes c.args.node =
    subst (λ (t : Table). IsAbsent t.nodes c.args.node) c.self.view_is (row-absent c.self.inside.rows.entries c.self.invariant.0 c.args.node (sym c.in_default.ensures.value)) in
    let table : IsTable c.args.self.now = subst IsTable c.self.view_is c.self.invariant.1 in
    let rows : c.len.result ≡ length c.args.self.now.nodes = c.len.ensures.len ∙ sym (length-map c.self.inside.rows.entries (λ (e : Node × ℕ). e.0)) ∙ ap (λ (t : Table). length t.nodes) c.self.view_is in
    record {
      row = search rules;
      terms = search rules;
      kept = search rules;
      table = search rules;
      stopped = search rules;
      too_many = (λ e. grind (arith, common_steps), λ p. absurd (omega (arith, p.1)));
      no_memory = λ e. has_term-new c.args.self.now c.args.node table c.requires absent;
    }

ordered : (c : goal.In_ok-row) → IsOrderedGate (keys c.self.inside.rows) c.args.node
ordered c = subst (λ (t : Table). IsOrderedGate t.nodes c.args.node) (sym c.self.view_is) c.requires

absent : (c : goal.In_ok-row) → IsAbsent (keys c.self.inside.rows) c.args.node
absent c = row-absent c.self.inside.rows.entries c.self.invariant.0 c.args.node (sym c.in_default.ensures.value)

pub invariant_of-self-2 : goal.invariant_of-self-2
invariant_of-self-2 c =
    let rows : c.len.result ≡ length (keys c.self.inside.rows) = c.len.ensures.len ∙ sym (length-map c.self.inside.rows.entries (λ (e : Node × ℕ). e.0)) in (
      c.in_ok-row.ensures.numbered,
      subst (λ ns. IsTable (record { inputs = c.self.inside.inputs; randoms = c.self.inside.randoms; nodes = ns })) (sym c.in_ok-row.ensures.nodes)
          (IsTable-added _ c.args.node c.self.invariant.1 (ordered c) (omega arith) (absent c)),
    )

pub returns : goal.returns
returns c =
    let rows : c.len.result ≡ length c.args.self.now.nodes = c.len.ensures.len ∙ sym (length-map c.self.inside.rows.entries (λ (e : Node × ℕ). e.0)) ∙ ap (λ (t : Table). length t.nodes) c.self.view_is in
    let at_end = IsRowOf-added _ c.args.node c.self.invariant.1 (ordered c) in
    let old = subst (λ (t : Table). IsRowOf (keys c.self.inside.rows ++ c.args.node ∷ []) (length (keys c.self.inside.rows)) (term_of (terms t.nodes) c.args.node)) c.self.view_is at_end in
    record {
      row = subst (λ ns. IsRowOf ns c.in_ok-row.row.0 (term_of (terms c.args.self.now.nodes) c.args.node)) (sym c.in_ok-row.ensures.nodes)
          (subst (λ r. IsRowOf (keys c.self.inside.rows ++ c.args.node ∷ []) r (term_of (terms c.args.self.now.nodes) c.args.node)) (sym c.in_ok-row.ensures.row) old);
      terms = ap terms c.in_ok-row.ensures.nodes
          ∙ subst (λ (t : Table). terms (keys c.self.inside.rows ++ c.args.node ∷ []) ≡ with_term (terms t.nodes) (term_of (terms t.nodes) c.args.node)) c.self.view_is
          (terms-added _ c.args.node c.self.invariant.1 (ordered c) (absent c));
      kept = search rules;
      table = (invariant_of-self-2 c).1;
      stopped = tt;
      too_many = (λ e. cc, λ p. absurd (omega (arith, p.1)));
      no_memory = λ e. cc;
    }
