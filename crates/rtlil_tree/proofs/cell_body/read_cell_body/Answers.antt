use Rattle.std.proofs.Common.{ap, refl}
use Rattle.std.proofs.lemmas.Result.{err_from_is_err_and}
use Rattle.rtlil_tree.specs.Forms.{cell_view}
use Rattle.rtlil_tree.proofs.Moves.{is_next, is_last, leads_out}
use Rattle.rtlil_tree.proofs.CellMoves.{cell_parameter_in, cell_connect_in, cell_closed, cell_stopped, cell_connect_stopped, cell_missing, cell_not_taken}
use Rattle.rtlil_tree.proofs.cell_body.read_cell_body.Goals as goal

pub returns-in_err-advance-clause-body : goal.returns-in_err-advance-clause-body
returns-in_err-advance-clause-body c = λ rest ah ms m of.
    let p = err_from_is_err_and c.from_residual-in_err-advance.result c.from_residual-in_err-advance.ensures.1 in
    leads_out c.from_residual-in_err-advance.result c.in_err-advance.field-0.0 p.0 _ _ p.1 p.2
    (cell_not_taken c.in_err-advance.field-0.0 c.args.lines.now c.loop-body.lines c.advance.new.self c.loop-body.body c.loop-body.invariant c.in_err-advance.ensures.line rest ah ms m of)

pub returns-in_err-parameter-clause-body : goal.returns-in_err-parameter-clause-body
returns-in_err-parameter-clause-body c = λ rest ah ms m of.
    let p = err_from_is_err_and c.from_residual-in_err-parameter.result c.from_residual-in_err-parameter.ensures.1 in
    leads_out c.from_residual-in_err-parameter.result c.in_err-parameter.field-0.0 p.0 _ _ p.1 p.2
    (cell_stopped c.args.lines.now c.loop-body.lines c.advance.new.self c.loop-body.body c.line-line.result c.in_err-parameter.field-0.0 c.loop-body.invariant
    (is_next c.loop-body.lines c.advance.new.self c.line-line.result c.in_ok-advance.field-0 c.in_ok-advance.ensures.line c.in_ok-advance.ensures.on c.if-branch.true c.line-line.ensures) c.in_err-parameter.ensures rest ah ms m of)

pub loop-body-preserved-in-Continue-branch-5 : goal.loop-body-preserved-in-Continue-branch-5
loop-body-preserved-in-Continue-branch-5 c =
    cell_parameter_in c.args.lines.now c.loop-body.lines c.advance.new.self c.loop-body.body c.line-line.result c.in_ok-parameter.field-0 c.in-Parameter.parameter c.push.new.self c.loop-body.invariant
    (is_next c.loop-body.lines c.advance.new.self c.line-line.result c.in_ok-advance.field-0 c.in_ok-advance.ensures.line c.in_ok-advance.ensures.on c.if-branch.true c.line-line.ensures)
    c.in_ok-parameter.ensures (ap cell_view c.in-Parameter.is) c.in_ok-push-in-Parameter.ensures.items

pub loop-body-preserved : goal.loop-body-preserved
loop-body-preserved c =
    cell_connect_in c.in_ok-connect-in-Connect.field-0 c.args.lines.now c.loop-body.lines c.advance.new.self c.loop-body.body c.connect.new.self c.line-line.result c.line-line.result.number c.in_ok-parameter.field-0 _ c.loop-body.invariant
    (is_next c.loop-body.lines c.advance.new.self c.line-line.result c.in_ok-advance.field-0 c.in_ok-advance.ensures.line c.in_ok-advance.ensures.on c.if-branch.true c.line-line.ensures)
    c.in_ok-parameter.ensures (ap cell_view c.in-Connect.is) refl c.in_ok-connect-in-Connect.ensures.step c.in_ok-connect-in-Connect.ensures.ports

pub returns-in_err-connect-in-Connect-clause-body : goal.returns-in_err-connect-in-Connect-clause-body
returns-in_err-connect-in-Connect-clause-body c = λ rest ah ms m of.
    let p = err_from_is_err_and c.from_residual-in_err-connect-in-Connect.result c.from_residual-in_err-connect-in-Connect.ensures.1 in
    leads_out c.from_residual-in_err-connect-in-Connect.result c.in_err-connect-in-Connect.field-0.0 p.0 _ _ p.1 p.2
    (cell_connect_stopped c.in_err-connect-in-Connect.field-0.0 c.args.lines.now c.loop-body.lines c.advance.new.self c.loop-body.body c.connect.new.self c.line-line.result c.line-line.result.number c.in_ok-parameter.field-0 _ c.loop-body.invariant
    (is_next c.loop-body.lines c.advance.new.self c.line-line.result c.in_ok-advance.field-0 c.in_ok-advance.ensures.line c.in_ok-advance.ensures.on c.if-branch.true c.line-line.ensures)
    c.in_ok-parameter.ensures (ap cell_view c.in-Connect.is) refl c.in_err-connect-in-Connect.ensures.step rest ah ms m of)

pub returns-in-End-clause-body : goal.returns-in-End-clause-body
returns-in-End-clause-body c =
    cell_closed c.args.lines.now c.loop-body.lines c.advance.new.self c.loop-body.body c.line-line.result c.in_ok-parameter.field-0 c.loop-body.invariant
    (is_next c.loop-body.lines c.advance.new.self c.line-line.result c.in_ok-advance.field-0 c.in_ok-advance.ensures.line c.in_ok-advance.ensures.on c.if-branch.true c.line-line.ensures) c.in_ok-parameter.ensures (ap cell_view c.in-End.is)

pub returns-clause-body : goal.returns-clause-body
returns-clause-body c =
    cell_missing c.bad_form.result c.args.lines.now c.loop-body.lines c.advance.new.self c.loop-body.body c.bad_form.ensures c.loop-body.invariant
    (is_last c.loop-body.lines c.advance.new.self c.in_ok-advance.field-0 c.in_ok-advance.ensures.line c.in_ok-advance.ensures.on c.if-branch.false (c.in_ok-advance.ensures.at_end c.if-branch.false))
