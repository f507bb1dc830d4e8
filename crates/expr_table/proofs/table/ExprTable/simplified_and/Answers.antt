use Rattle.std.proofs.Common.{sym, subst}
use Rattle.std.proofs.lemmas.Bool.{eqb-true, eqb-false}
use Rattle.expr_table.specs.Table.{IsTable}
use Rattle.expr_table.proofs.Ands.{And-zero_left, And-zero_right, And-one_left, And-one_right, And-same, And-last}
use Rattle.expr_table.proofs.table.ExprTable.simplified_and.Goals as goal

pub returns-then-eq : goal.returns-then-eq
returns-then-eq c =
    And-zero_left c.args.self.now (subst IsTable c.self.view_is c.self.invariant.1) c.args.a c.args.b c.zero-zero.result c.requires.a_in c.requires.b_in c.zero-zero.ensures.row
    (eqb-true _ _ (sym c.if-eq.ensures))

pub returns-then-eq-2 : goal.returns-then-eq-2
returns-then-eq-2 c =
    And-zero_right c.args.self.now (subst IsTable c.self.view_is c.self.invariant.1) c.args.a c.args.b c.zero-zero.result c.requires.a_in c.requires.b_in c.zero-zero.ensures.row
    (eqb-false _ _ (sym c.if-eq.ensures)) (eqb-true _ _ (sym c.if-eq-2.ensures))

pub returns-then-eq-3 : goal.returns-then-eq-3
returns-then-eq-3 c =
    And-one_left c.args.self.now (subst IsTable c.self.view_is c.self.invariant.1) c.args.a c.args.b c.zero-zero.result c.requires.a_in c.requires.b_in c.zero-zero.ensures.row
    (eqb-false _ _ (sym c.if-eq.ensures)) (eqb-false _ _ (sym c.if-eq-2.ensures)) c.one-one.result c.one-one.ensures.row (eqb-true _ _ (sym c.if-eq-3.ensures))

pub returns-then-eq-4 : goal.returns-then-eq-4
returns-then-eq-4 c =
    And-one_right c.args.self.now (subst IsTable c.self.view_is c.self.invariant.1) c.args.a c.args.b c.zero-zero.result c.requires.a_in c.requires.b_in c.zero-zero.ensures.row
    (eqb-false _ _ (sym c.if-eq.ensures)) (eqb-false _ _ (sym c.if-eq-2.ensures)) c.one-one.result c.one-one.ensures.row
    (eqb-false _ _ (sym c.if-eq-3.ensures)) (eqb-true _ _ (sym c.if-eq-4.ensures))

pub returns-then-eq-5 : goal.returns-then-eq-5
returns-then-eq-5 c =
    And-same c.args.self.now (subst IsTable c.self.view_is c.self.invariant.1) c.args.a c.args.b c.zero-zero.result c.requires.a_in c.requires.b_in c.zero-zero.ensures.row
    (eqb-false _ _ (sym c.if-eq.ensures)) (eqb-false _ _ (sym c.if-eq-2.ensures)) c.one-one.result c.one-one.ensures.row
    (eqb-false _ _ (sym c.if-eq-3.ensures)) (eqb-false _ _ (sym c.if-eq-4.ensures)) (eqb-true _ _ (sym c.if-eq-5.ensures))

pub returns-else-eq-5 : goal.returns-else-eq-5
returns-else-eq-5 c =
    And-last c.args.self.now (subst IsTable c.self.view_is c.self.invariant.1) c.args.a c.args.b c.zero-zero.result c.requires.a_in c.requires.b_in c.zero-zero.ensures.row
    (eqb-false _ _ (sym c.if-eq.ensures)) (eqb-false _ _ (sym c.if-eq-2.ensures)) c.one-one.result c.one-one.ensures.row
    (eqb-false _ _ (sym c.if-eq-3.ensures)) (eqb-false _ _ (sym c.if-eq-4.ensures)) (eqb-false _ _ (sym c.if-eq-5.ensures))
