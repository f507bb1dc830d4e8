use Rattle.std.proofs.Common.{ap, arith, refl, sym, ◌∙◌}
use Rattle.std.proofs.lemmas.Result.{err_from_is_err_and}
use Rattle.rtlil_tree.specs.Machine.{has_some}
use Rattle.rtlil_tree.specs.Forms.{module_view}
use Rattle.rtlil_tree.proofs.Moves.{is_next, is_last, leads_out}
use Rattle.rtlil_tree.proofs.ModuleMoves.{module_attribute_in, module_step_in, module_run_in, module_closed, module_not_closed, module_stopped, module_step_stopped, module_run_stopped, module_missing, module_not_taken}
use Rattle.rtlil_tree.proofs.module_body.read_module_body.Goals as goal

pub returns-in_err-advance-clause-body : goal.returns-in_err-advance-clause-body
returns-in_err-advance-clause-body c = λ rest ah ms m.
    let p = err_from_is_err_and c.from_residual.result c.from_residual.ensures.1 in
    leads_out c.from_residual.result c.in_err-advance.field-0.0 p.0 _ _ p.1 p.2
    (module_not_taken c.in_err-advance.field-0.0 c.args.lines.now c.loop-body.lines c.advance.new.self c.loop-body.body c.loop-body.invariant c.in_err-advance.ensures.line rest ah ms m)

pub returns-in_err-attribute-clause-body : goal.returns-in_err-attribute-clause-body
returns-in_err-attribute-clause-body c = λ rest ah ms m.
    let p = err_from_is_err_and c.from_residual-in_err-attribute.result c.from_residual-in_err-attribute.ensures.1 in
    leads_out c.from_residual-in_err-attribute.result c.in_err-attribute.field-0.0 p.0 _ _ p.1 p.2
    (module_stopped c.args.lines.now c.loop-body.lines c.advance.new.self c.loop-body.body c.line-line.result c.in_err-attribute.field-0.0 c.loop-body.invariant
    (is_next c.loop-body.lines c.advance.new.self c.line-line.result c.in_ok-advance.field-0 c.in_ok-advance.ensures.line c.in_ok-advance.ensures.on c.if-branch.true c.line-line.ensures) c.in_err-attribute.ensures rest ah ms m)

pub loop-body-preserved-in-Continue-branch-4 : goal.loop-body-preserved-in-Continue-branch-4
loop-body-preserved-in-Continue-branch-4 c =
    module_attribute_in c.args.lines.now c.loop-body.lines c.advance.new.self c.loop-body.body c.line-line.result c.line-line.result.number c.in_ok-attribute.field-0 c.in-Attribute.attribute c.push.new.self c.loop-body.invariant
    (is_next c.loop-body.lines c.advance.new.self c.line-line.result c.in_ok-advance.field-0 c.in_ok-advance.ensures.line c.in_ok-advance.ensures.on c.if-branch.true c.line-line.ensures)
    c.in_ok-attribute.ensures (ap module_view c.in-Attribute.is) refl c.in_ok-push-in-Attribute.ensures.items

pub loop-body-preserved-in-Continue-branch-5 : goal.loop-body-preserved-in-Continue-branch-5
loop-body-preserved-in-Continue-branch-5 c =
    module_step_in c.in_ok-parameter-in-Parameter.field-0 c.args.lines.now c.loop-body.lines c.advance.new.self c.loop-body.body c.parameter.new.self c.line-line.result c.line-line.result.number c.in_ok-attribute.field-0 _ c.loop-body.invariant
    (is_next c.loop-body.lines c.advance.new.self c.line-line.result c.in_ok-advance.field-0 c.in_ok-advance.ensures.line c.in_ok-advance.ensures.on c.if-branch.true c.line-line.ensures)
    c.in_ok-attribute.ensures (ap module_view c.in-Parameter.is) refl c.in_ok-parameter-in-Parameter.ensures.step c.in_ok-parameter-in-Parameter.ensures.names

pub returns-in_err-parameter-in-Parameter-clause-body : goal.returns-in_err-parameter-in-Parameter-clause-body
returns-in_err-parameter-in-Parameter-clause-body c = λ rest ah ms m.
    let p = err_from_is_err_and c.from_residual-in_err-parameter-in-Parameter.result c.from_residual-in_err-parameter-in-Parameter.ensures.1 in
    leads_out c.from_residual-in_err-parameter-in-Parameter.result c.in_err-parameter-in-Parameter.field-0.0 p.0 _ _ p.1 p.2
    (module_step_stopped c.in_err-parameter-in-Parameter.field-0.0 c.args.lines.now c.loop-body.lines c.advance.new.self c.loop-body.body c.parameter.new.self c.line-line.result c.line-line.result.number c.in_ok-attribute.field-0 _ c.loop-body.invariant
    (is_next c.loop-body.lines c.advance.new.self c.line-line.result c.in_ok-advance.field-0 c.in_ok-advance.ensures.line c.in_ok-advance.ensures.on c.if-branch.true c.line-line.ensures)
    c.in_ok-attribute.ensures (ap module_view c.in-Parameter.is) refl c.in_err-parameter-in-Parameter.ensures.step rest ah ms m)

pub loop-body-preserved-in-Continue-branch-6 : goal.loop-body-preserved-in-Continue-branch-6
loop-body-preserved-in-Continue-branch-6 c =
    module_step_in c.in_ok-wire-in-Wire.field-0 c.args.lines.now c.loop-body.lines c.advance.new.self c.loop-body.body c.wire.new.self c.line-line.result c.line-line.result.number c.in_ok-attribute.field-0 _ c.loop-body.invariant
    (is_next c.loop-body.lines c.advance.new.self c.line-line.result c.in_ok-advance.field-0 c.in_ok-advance.ensures.line c.in_ok-advance.ensures.on c.if-branch.true c.line-line.ensures)
    c.in_ok-attribute.ensures (ap module_view c.in-Wire.is) refl c.in_ok-wire-in-Wire.ensures.step c.in_ok-wire-in-Wire.ensures.names

pub returns-in_err-wire-in-Wire-clause-body : goal.returns-in_err-wire-in-Wire-clause-body
returns-in_err-wire-in-Wire-clause-body c = λ rest ah ms m.
    let p = err_from_is_err_and c.from_residual-in_err-wire-in-Wire.result c.from_residual-in_err-wire-in-Wire.ensures.1 in
    leads_out c.from_residual-in_err-wire-in-Wire.result c.in_err-wire-in-Wire.field-0.0 p.0 _ _ p.1 p.2
    (module_step_stopped c.in_err-wire-in-Wire.field-0.0 c.args.lines.now c.loop-body.lines c.advance.new.self c.loop-body.body c.wire.new.self c.line-line.result c.line-line.result.number c.in_ok-attribute.field-0 _ c.loop-body.invariant
    (is_next c.loop-body.lines c.advance.new.self c.line-line.result c.in_ok-advance.field-0 c.in_ok-advance.ensures.line c.in_ok-advance.ensures.on c.if-branch.true c.line-line.ensures)
    c.in_ok-attribute.ensures (ap module_view c.in-Wire.is) refl c.in_err-wire-in-Wire.ensures.step rest ah ms m)

pub loop-body-smaller-in-Continue-branch-7 : goal.loop-body-smaller-in-Continue-branch-7
loop-body-smaller-in-Continue-branch-7 c = omega (arith, c.in_ok-advance.ensures.less c.if-branch.true, c.in_ok-cell-in-Cell.ensures.on.less)

pub loop-body-preserved-in-Continue-branch-7 : goal.loop-body-preserved-in-Continue-branch-7
loop-body-preserved-in-Continue-branch-7 c =
    module_run_in c.in_ok-cell-in-Cell.field-0 c.args.lines.now c.loop-body.lines c.advance.new.self c.cell.new.lines c.loop-body.body c.cell.new.self c.line-line.result c.line-line.result.number c.in_ok-attribute.field-0 _ c.loop-body.invariant
    (is_next c.loop-body.lines c.advance.new.self c.line-line.result c.in_ok-advance.field-0 c.in_ok-advance.ensures.line c.in_ok-advance.ensures.on c.if-branch.true c.line-line.ensures)
    c.in_ok-attribute.ensures (ap module_view c.in-Cell.is) refl c.in_ok-cell-in-Cell.ensures.cell c.in_ok-cell-in-Cell.ensures.names c.in_ok-cell-in-Cell.ensures.on

pub returns-in_err-cell-in-Cell-clause-body : goal.returns-in_err-cell-in-Cell-clause-body
returns-in_err-cell-in-Cell-clause-body c = λ rest ah ms m.
    let p = err_from_is_err_and c.from_residual-in_err-cell-in-Cell.result c.from_residual-in_err-cell-in-Cell.ensures.1 in
    leads_out c.from_residual-in_err-cell-in-Cell.result c.in_err-cell-in-Cell.field-0.0 p.0 _ _ p.1 p.2
    (module_run_stopped c.in_err-cell-in-Cell.field-0.0 c.args.lines.now c.loop-body.lines c.advance.new.self c.cell.new.lines c.loop-body.body c.cell.new.self c.line-line.result c.line-line.result.number c.in_ok-attribute.field-0 _ c.loop-body.invariant
    (is_next c.loop-body.lines c.advance.new.self c.line-line.result c.in_ok-advance.field-0 c.in_ok-advance.ensures.line c.in_ok-advance.ensures.on c.if-branch.true c.line-line.ensures)
    c.in_ok-attribute.ensures (ap module_view c.in-Cell.is) refl c.in_err-cell-in-Cell.ensures.cell rest ah ms m)

pub loop-body-preserved : goal.loop-body-preserved
loop-body-preserved c =
    module_step_in c.in_ok-connect-in-Connect.field-0 c.args.lines.now c.loop-body.lines c.advance.new.self c.loop-body.body c.connect.new.self c.line-line.result c.line-line.result.number c.in_ok-attribute.field-0 _ c.loop-body.invariant
    (is_next c.loop-body.lines c.advance.new.self c.line-line.result c.in_ok-advance.field-0 c.in_ok-advance.ensures.line c.in_ok-advance.ensures.on c.if-branch.true c.line-line.ensures)
    c.in_ok-attribute.ensures (ap module_view c.in-Connect.is) refl c.in_ok-connect-in-Connect.ensures.step c.in_ok-connect-in-Connect.ensures.names

pub returns-in_err-connect-in-Connect-clause-body : goal.returns-in_err-connect-in-Connect-clause-body
returns-in_err-connect-in-Connect-clause-body c = λ rest ah ms m.
    let p = err_from_is_err_and c.from_residual-in_err-connect-in-Connect.result c.from_residual-in_err-connect-in-Connect.ensures.1 in
    leads_out c.from_residual-in_err-connect-in-Connect.result c.in_err-connect-in-Connect.field-0.0 p.0 _ _ p.1 p.2
    (module_step_stopped c.in_err-connect-in-Connect.field-0.0 c.args.lines.now c.loop-body.lines c.advance.new.self c.loop-body.body c.connect.new.self c.line-line.result c.line-line.result.number c.in_ok-attribute.field-0 _ c.loop-body.invariant
    (is_next c.loop-body.lines c.advance.new.self c.line-line.result c.in_ok-advance.field-0 c.in_ok-advance.ensures.line c.in_ok-advance.ensures.on c.if-branch.true c.line-line.ensures)
    c.in_ok-attribute.ensures (ap module_view c.in-Connect.is) refl c.in_err-connect-in-Connect.ensures.step rest ah ms m)

pub returns-in_err-none_held-in-End-clause-body : goal.returns-in_err-none_held-in-End-clause-body
returns-in_err-none_held-in-End-clause-body c = λ rest ah ms m.
    let p = err_from_is_err_and c.from_residual-in_err-none_held-in-End.result c.from_residual-in_err-none_held-in-End.ensures.1 in
    leads_out c.from_residual-in_err-none_held-in-End.result c.in_err-none_held-in-End.field-0.0 p.0 _ _ p.1 p.2
    (module_not_closed c.in_err-none_held-in-End.field-0.0 c.args.lines.now c.loop-body.lines c.advance.new.self c.loop-body.body c.line-line.result c.line-line.result.number c.in_ok-attribute.field-0 c.loop-body.invariant
    (is_next c.loop-body.lines c.advance.new.self c.line-line.result c.in_ok-advance.field-0 c.in_ok-advance.ensures.line c.in_ok-advance.ensures.on c.if-branch.true c.line-line.ensures)
    c.in_ok-attribute.ensures (ap module_view c.in-End.is) refl c.in_err-none_held-in-End.ensures.held.1 (ap has_some (sym c.deref.ensures.value) ∙ c.in_err-none_held-in-End.ensures.held.0) rest ah ms m)

pub returns-in-End-clause-body : goal.returns-in-End-clause-body
returns-in-End-clause-body c =
    module_closed c.args.lines.now c.loop-body.lines c.advance.new.self c.loop-body.body c.line-line.result c.line-line.result.number c.in_ok-attribute.field-0 c.loop-body.invariant
    (is_next c.loop-body.lines c.advance.new.self c.line-line.result c.in_ok-advance.field-0 c.in_ok-advance.ensures.line c.in_ok-advance.ensures.on c.if-branch.true c.line-line.ensures)
    c.in_ok-attribute.ensures (ap module_view c.in-End.is) refl (sym c.deref.ensures.value ∙ c.in_ok-none_held-in-End.ensures.none)

pub returns-clause-body : goal.returns-clause-body
returns-clause-body c =
    module_missing c.bad_form.result c.args.lines.now c.loop-body.lines c.advance.new.self c.loop-body.body c.bad_form.ensures c.loop-body.invariant
    (is_last c.loop-body.lines c.advance.new.self c.in_ok-advance.field-0 c.in_ok-advance.ensures.line c.in_ok-advance.ensures.on c.if-branch.false (c.in_ok-advance.ensures.at_end c.if-branch.false))
