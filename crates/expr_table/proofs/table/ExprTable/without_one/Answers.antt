use Rattle.std.proofs.Common.{◌≡◌, sym, ◌∙◌, subst}
use Rattle.std.proofs.lemmas.Bool.{not-false, not-true, eqb-true, eqb-false}
use Rattle.std.proofs.lemmas.Option.{get_or_from_slice_get}
use Rattle.expr_table.specs.declared.node.Node.TheVariants as node
use Rattle.expr_table.specs.Table.{IsTable, node_at}
use Rattle.expr_table.proofs.Xors.{without_one-found, without_one-no_side, without_one-no_Xor, without_one-no_one, Xor-sides}
use Rattle.expr_table.proofs.table.ExprTable.without_one.Goals as goal

pub returns-then-ne-clause-term : goal.returns-then-ne-clause-term
returns-then-ne-clause-term c =
    let table : IsTable c.args.self.now = subst IsTable c.self.view_is c.self.invariant.1 in
    without_one-no_one c.args.self.now table c.args.a c.args.b c.one-one.result c.requires.a_in c.one-one.ensures.row (eqb-false _ _ (not-true _ (sym c.if-ne.ensures)))

pub returns-then-eq-clause-within : goal.returns-then-eq-clause-within
returns-then-eq-clause-within c =
    let table : IsTable c.args.self.now = subst IsTable c.self.view_is c.self.invariant.1 in
    let at : node_at c.args.self.now.nodes c.args.b.0 ≡ node.Xor c.in-Xor.side c.in-Xor.c = get_or_from_slice_get c.args.self.now.nodes c.args.b.0 (node.Xor c.in-Xor.side c.in-Xor.c) node.Zero c.in-Xor.ensures in
    (Xor-sides c.args.self.now table c.args.b c.in-Xor.side c.in-Xor.c c.requires.b_in at).1

pub returns-then-eq-clause-term : goal.returns-then-eq-clause-term
returns-then-eq-clause-term c =
    let table : IsTable c.args.self.now = subst IsTable c.self.view_is c.self.invariant.1 in
    let at : node_at c.args.self.now.nodes c.args.b.0 ≡ node.Xor c.in-Xor.side c.in-Xor.c = get_or_from_slice_get c.args.self.now.nodes c.args.b.0 (node.Xor c.in-Xor.side c.in-Xor.c) node.Zero c.in-Xor.ensures in
    without_one-found c.args.self.now table c.args.a c.args.b c.one-one.result c.in-Xor.side c.in-Xor.c c.requires.b_in c.one-one.ensures.row
    (eqb-true _ _ (not-false _ (sym c.if-ne.ensures))) (eqb-true _ _ (sym c.if-eq.ensures)) at

pub returns-else-eq-clause-term : goal.returns-else-eq-clause-term
returns-else-eq-clause-term c =
    let table : IsTable c.args.self.now = subst IsTable c.self.view_is c.self.invariant.1 in
    let at : node_at c.args.self.now.nodes c.args.b.0 ≡ node.Xor c.in-Xor.side c.in-Xor.c = get_or_from_slice_get c.args.self.now.nodes c.args.b.0 (node.Xor c.in-Xor.side c.in-Xor.c) node.Zero c.in-Xor.ensures in
    without_one-no_side c.args.self.now table c.args.a c.args.b c.in-Xor.side c.in-Xor.c c.one-one.result c.requires.b_in c.one-one.ensures.row (eqb-false _ _ (sym c.if-eq.ensures)) at

pub returns-in_default : goal.returns-in_default
returns-in_default c =
    let table : IsTable c.args.self.now = subst IsTable c.self.view_is c.self.invariant.1 in
    let at = get_or_from_slice_get c.args.self.now.nodes c.args.b.0 c.node.result node.Zero c.node.ensures in
    record { within = tt; term = without_one-no_Xor c.args.self.now table c.args.a c.args.b c.requires.b_in (λ p q e. c.in_default.not-Xor p q (sym at ∙ e)) }
