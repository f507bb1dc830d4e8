use Rattle.std.proofs.Common.{sym, subst, arith, length-drop, drop, length, ◌<◌, Ok, Err}
use Rattle.std.proofs.lemmas.List.{take_rest}
use Rattle.rtlil_lex.specs.Next.{IsNext, IsStep}
use Rattle.rtlil_lex.proofs.Steps.{misfit_within, spelling_within, line_behind, step_err, step_ok}
use Rattle.rtlil_lex.proofs.cursor.Cursor.take_token.Goals as goal

pub fault_at-requires : goal.fault_at-requires
fault_at-requires c =
    let self = c.args.self.now in
    let misfit : IsNext (drop self.place self.bytes.now) (Err c.in-Err.misfit) = simp take_rest at c.in-Err.ensures in
    let some : 0 < length (drop self.place self.bytes.now) = omega (arith, length-drop self.place self.bytes.now) in
    omega (arith, misfit_within _ _ some misfit, length-drop self.place self.bytes.now)

pub returns-in-Err-clause-step : goal.returns-in-Err-clause-step
returns-in-Err-clause-step c =
    let self = c.args.self.now in
    let misfit : IsNext (drop self.place self.bytes.now) (Err c.in-Err.misfit) = simp take_rest at c.in-Err.ensures in
    subst (λ f. IsStep self.bytes.now self.place self.place (Err f)) (sym c.fault_at.ensures) (step_err self.bytes.now self.place self.place c.in-Err.misfit misfit)

pub overflow_add-end : goal.overflow_add-end
overflow_add-end c =
    let self = c.args.self.now in
    let spelling : IsNext (drop self.place self.bytes.now) (Ok c.in-Ok.spelling) = simp take_rest at c.in-Ok.ensures in
    omega (arith, spelling_within _ _ spelling, length-drop self.place self.bytes.now)

pub overflow_cast-token-2 : goal.overflow_cast-token-2
overflow_cast-token-2 c =
    let self = c.args.self.now in
    let spelling : IsNext (drop self.place self.bytes.now) (Ok c.in-Ok.spelling) = simp take_rest at c.in-Ok.ensures in
    omega (arith, spelling_within _ _ spelling, length-drop self.place self.bytes.now)

pub invariant_of-self : goal.invariant_of-self
invariant_of-self c =
    let self = c.args.self.now in
    let spelling : IsNext (drop self.place self.bytes.now) (Ok c.in-Ok.spelling) = simp take_rest at c.in-Ok.ensures in
    record {
      within = omega (arith, spelling_within _ _ spelling, length-drop self.place self.bytes.now);
      short = self.short;
      counted = omega (arith, self.counted, c.lines_ended.ensures, line_behind self.bytes.now self.place c.in-Ok.spelling spelling);
    }

pub returns-clause-step : goal.returns-clause-step
returns-clause-step c =
    let self = c.args.self.now in
    let spelling : IsNext (drop self.place self.bytes.now) (Ok c.in-Ok.spelling) = simp take_rest at c.in-Ok.ensures in
    step_ok self.bytes.now self.place self.line c.in-Ok.spelling spelling self.counted
