use Rattle.std.proofs.Common.{ap, arith, refl, sym, ◌∙◌}
use Rattle.std.proofs.lemmas.Result.{err_from_is_err_and}
use Rattle.rtlil_tree.specs.Machine.{has_some}
use Rattle.rtlil_tree.specs.Forms.{file_view}
use Rattle.rtlil_tree.proofs.Moves.{is_next, is_last, leads_out}
use Rattle.rtlil_tree.proofs.FileMoves.{file_attribute_in, file_index_in, file_run_in, file_closed, whole_read, file_not_closed, file_index_stopped, file_stopped, file_run_stopped, file_not_taken}
use Rattle.rtlil_tree.proofs.file_body.read_file.Goals as goal

pub returns-in_err-advance-clause-file : goal.returns-in_err-advance-clause-file
returns-in_err-advance-clause-file c = λ rest ah.
    let p = err_from_is_err_and c.from_residual.result c.from_residual.ensures.1 in
    leads_out c.from_residual.result c.in_err-advance.field-0.0 p.0 _ _ p.1 p.2
    (file_not_taken c.in_err-advance.field-0.0 c.args.lines.now c.loop-words.lines c.advance.new.self c.loop-words.body c.loop-words.invariant c.in_err-advance.ensures.line rest ah)

pub returns-in_err-statement-clause-file : goal.returns-in_err-statement-clause-file
returns-in_err-statement-clause-file c = λ rest ah.
    let p = err_from_is_err_and c.from_residual-in_err-statement.result c.from_residual-in_err-statement.ensures.1 in
    leads_out c.from_residual-in_err-statement.result c.in_err-statement.field-0.0 p.0 _ _ p.1 p.2
    (file_stopped c.args.lines.now c.loop-words.lines c.advance.new.self c.loop-words.body c.line-line.result c.in_err-statement.field-0.0 c.loop-words.invariant
    (is_next c.loop-words.lines c.advance.new.self c.line-line.result c.in_ok-advance.field-0 c.in_ok-advance.ensures.line c.in_ok-advance.ensures.on c.if-branch.true c.line-line.ensures) c.in_err-statement.ensures rest ah)

pub loop-words-preserved-in-Continue-branch-4 : goal.loop-words-preserved-in-Continue-branch-4
loop-words-preserved-in-Continue-branch-4 c =
    file_index_in c.args.lines.now c.loop-words.lines c.advance.new.self c.loop-words.body c.line-line.result c.line-line.result.number c.in_ok-statement.field-0 c.in-Autoidx.field-0 c.loop-words.invariant
    (is_next c.loop-words.lines c.advance.new.self c.line-line.result c.in_ok-advance.field-0 c.in_ok-advance.ensures.line c.in_ok-advance.ensures.on c.if-branch.true c.line-line.ensures)
    c.in_ok-statement.ensures (ap file_view c.in-Autoidx.is) refl (sym c.deref.ensures.value ∙ c.in_ok-none_held-in-Autoidx.ensures.none)

pub returns-in_err-none_held-in-Autoidx-clause-file : goal.returns-in_err-none_held-in-Autoidx-clause-file
returns-in_err-none_held-in-Autoidx-clause-file c = λ rest ah.
    let p = err_from_is_err_and c.from_residual-in_err-none_held-in-Autoidx.result c.from_residual-in_err-none_held-in-Autoidx.ensures.1 in
    leads_out c.from_residual-in_err-none_held-in-Autoidx.result c.in_err-none_held-in-Autoidx.field-0.0 p.0 _ _ p.1 p.2
    (file_index_stopped c.in_err-none_held-in-Autoidx.field-0.0 c.args.lines.now c.loop-words.lines c.advance.new.self c.loop-words.body c.line-line.result c.line-line.result.number c.in_ok-statement.field-0 c.in-Autoidx.field-0 c.loop-words.invariant
    (is_next c.loop-words.lines c.advance.new.self c.line-line.result c.in_ok-advance.field-0 c.in_ok-advance.ensures.line c.in_ok-advance.ensures.on c.if-branch.true c.line-line.ensures)
    c.in_ok-statement.ensures (ap file_view c.in-Autoidx.is) refl c.in_err-none_held-in-Autoidx.ensures.held.1 (ap has_some (sym c.deref.ensures.value) ∙ c.in_err-none_held-in-Autoidx.ensures.held.0) rest ah)

pub loop-words-preserved-in-Continue-branch-5 : goal.loop-words-preserved-in-Continue-branch-5
loop-words-preserved-in-Continue-branch-5 c =
    file_attribute_in c.args.lines.now c.loop-words.lines c.advance.new.self c.loop-words.body c.line-line.result c.line-line.result.number c.in_ok-statement.field-0 c.in-Attribute.attribute c.push.new.self c.loop-words.invariant
    (is_next c.loop-words.lines c.advance.new.self c.line-line.result c.in_ok-advance.field-0 c.in_ok-advance.ensures.line c.in_ok-advance.ensures.on c.if-branch.true c.line-line.ensures)
    c.in_ok-statement.ensures (ap file_view c.in-Attribute.is) refl c.in_ok-push-in-Attribute.ensures.items

pub loop-words-smaller : goal.loop-words-smaller
loop-words-smaller c = omega (arith, c.in_ok-advance.ensures.less c.if-branch.true, c.in_ok-module-in-Module.ensures.on.less)

pub loop-words-preserved : goal.loop-words-preserved
loop-words-preserved c =
    file_run_in c.in_ok-module-in-Module.field-0 c.args.lines.now c.loop-words.lines c.advance.new.self c.module.new.lines c.loop-words.body c.module.new.self c.line-line.result c.line-line.result.number c.in_ok-statement.field-0 _ c.loop-words.invariant
    (is_next c.loop-words.lines c.advance.new.self c.line-line.result c.in_ok-advance.field-0 c.in_ok-advance.ensures.line c.in_ok-advance.ensures.on c.if-branch.true c.line-line.ensures)
    c.in_ok-statement.ensures (ap file_view c.in-Module.is) refl c.in_ok-module-in-Module.ensures.module c.in_ok-module-in-Module.ensures.names c.in_ok-module-in-Module.ensures.on

pub returns-in_err-module-in-Module-clause-file : goal.returns-in_err-module-in-Module-clause-file
returns-in_err-module-in-Module-clause-file c = λ rest ah.
    let p = err_from_is_err_and c.from_residual-in_err-module-in-Module.result c.from_residual-in_err-module-in-Module.ensures.1 in
    leads_out c.from_residual-in_err-module-in-Module.result c.in_err-module-in-Module.field-0.0 p.0 _ _ p.1 p.2
    (file_run_stopped c.in_err-module-in-Module.field-0.0 c.args.lines.now c.loop-words.lines c.advance.new.self c.module.new.lines c.loop-words.body c.module.new.self c.line-line.result c.line-line.result.number c.in_ok-statement.field-0 _ c.loop-words.invariant
    (is_next c.loop-words.lines c.advance.new.self c.line-line.result c.in_ok-advance.field-0 c.in_ok-advance.ensures.line c.in_ok-advance.ensures.on c.if-branch.true c.line-line.ensures)
    c.in_ok-statement.ensures (ap file_view c.in-Module.is) refl c.in_err-module-in-Module.ensures.module rest ah)

pub returns-in_err-none_held-clause-file : goal.returns-in_err-none_held-clause-file
returns-in_err-none_held-clause-file c = λ rest ah.
    let p = err_from_is_err_and c.from_residual-in_err-none_held.result c.from_residual-in_err-none_held.ensures.1 in
    leads_out c.from_residual-in_err-none_held.result c.in_err-none_held.field-0.0 p.0 _ _ p.1 p.2
    (file_not_closed c.in_err-none_held.field-0.0 c.args.lines.now c.loop-words.lines c.advance.new.self c.loop-words.body c.loop-words.invariant
    (is_last c.loop-words.lines c.advance.new.self c.in_ok-advance.field-0 c.in_ok-advance.ensures.line c.in_ok-advance.ensures.on c.if-branch.false (c.in_ok-advance.ensures.at_end c.if-branch.false))
    c.in_err-none_held.ensures.held.1 (ap has_some (sym c.deref-2.ensures.value) ∙ c.in_err-none_held.ensures.held.0) rest ah)

pub returns-clause-file : goal.returns-clause-file
returns-clause-file c =
    file_closed c.args.lines.now c.loop-words.lines c.advance.new.self c.loop-words.body _ c.loop-words.invariant
    (is_last c.loop-words.lines c.advance.new.self c.in_ok-advance.field-0 c.in_ok-advance.ensures.line c.in_ok-advance.ensures.on c.if-branch.false (c.in_ok-advance.ensures.at_end c.if-branch.false))
    (sym c.deref-2.ensures.value ∙ c.in_ok-none_held.ensures.none) c.from_vec.ensures

pub returns-clause-whole : goal.returns-clause-whole
returns-clause-whole c =
    whole_read c.args.lines.now c.loop-words.lines c.advance.new.self c.loop-words.body c.loop-words.invariant
    (is_last c.loop-words.lines c.advance.new.self c.in_ok-advance.field-0 c.in_ok-advance.ensures.line c.in_ok-advance.ensures.on c.if-branch.false (c.in_ok-advance.ensures.at_end c.if-branch.false))
