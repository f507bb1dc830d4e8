use Rattle.std.proofs.Common.{sym, subst}
use Rattle.std.proofs.lemmas.Bool.{eqb-true, eqb-false}
use Rattle.expr_table.specs.Table.{IsTable}
use Rattle.expr_table.proofs.Xors.{Xor-same, Xor-zero_left, Xor-zero_right, Xor-one, Xor-last}
use Rattle.expr_table.proofs.table.ExprTable.simplified_xor.Goals as goal

pub returns-then-eq : goal.returns-then-eq
returns-then-eq c =
    Xor-same c.args.self.now (subst IsTable c.self.view_is c.self.invariant.1) c.args.a c.args.b c.zero-zero.result (eqb-true _ _ (sym c.if-eq.ensures)) c.zero-zero.ensures.row

pub returns-then-eq-2 : goal.returns-then-eq-2
returns-then-eq-2 c =
    Xor-zero_left c.args.self.now (subst IsTable c.self.view_is c.self.invariant.1) c.args.a c.args.b c.zero-zero.result c.requires.a_in c.requires.b_in c.zero-zero.ensures.row (eqb-false _ _ (sym c.if-eq.ensures))
    (eqb-true _ _ (sym c.if-eq-2.ensures))

pub returns-then-eq-3 : goal.returns-then-eq-3
returns-then-eq-3 c =
    Xor-zero_right c.args.self.now (subst IsTable c.self.view_is c.self.invariant.1) c.args.a c.args.b c.zero-zero.result c.requires.a_in c.requires.b_in c.zero-zero.ensures.row (eqb-false _ _ (sym c.if-eq.ensures))
    (eqb-false _ _ (sym c.if-eq-2.ensures)) (eqb-true _ _ (sym c.if-eq-3.ensures))

pub returns-in-Some : goal.returns-in-Some
returns-in-Some c =
    Xor-one c.args.self.now (subst IsTable c.self.view_is c.self.invariant.1) c.args.a c.args.b c.zero-zero.result c.requires.a_in c.requires.b_in c.zero-zero.ensures.row (eqb-false _ _ (sym c.if-eq.ensures))
    (eqb-false _ _ (sym c.if-eq-2.ensures)) (eqb-false _ _ (sym c.if-eq-3.ensures))
    c.in-Some.c c.in-Some.ensures.within (sym c.in-Some.ensures.term)

pub returns : goal.returns
returns c =
    Xor-last c.args.self.now (subst IsTable c.self.view_is c.self.invariant.1) c.args.a c.args.b c.zero-zero.result c.requires.a_in c.requires.b_in c.zero-zero.ensures.row (eqb-false _ _ (sym c.if-eq.ensures))
    (eqb-false _ _ (sym c.if-eq-2.ensures)) (eqb-false _ _ (sym c.if-eq-3.ensures))
    (sym c.in_default.ensures.term) c.without_one-2.result c.without_one-2.ensures.within c.without_one-2.ensures.term
