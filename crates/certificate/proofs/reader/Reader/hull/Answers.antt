use Rattle.std.proofs.Common.{◌≡◌, ℕ, ◌∙◌, sym, ap, subst, arith}
use Rattle.std.proofs.lemmas.Result.{err_from_is_err_and}
use Rattle.certificate.specs.declared.line.Line.{Line}
use Rattle.certificate.specs.declared.line.Line.TheVariants.{End}
use Rattle.certificate.specs.declared.fault.ReadBad.{ReadBad}
use Rattle.certificate.specs.Reading.{IsWrongEnd, ReadsOne}
use Rattle.certificate.proofs.ReadLines.{wrong_any, wrong_form, wrong_count, no_hull_or_end}
use Rattle.certificate.proofs.reader.Reader.hull.Goals as goal

pub returns-in_err-members-clause-line : goal.returns-in_err-members-clause-line
returns-in_err-members-clause-line c =
    let p = err_from_is_err_and c.from_residual.result c.from_residual.ensures.1 in
    rw (p.1, p.2)
    (wrong_any c.args.self.now.bytes.now c.args.self.now.place c.args.self.now.number c.args.entries c.in_err-members.field-0.0
    c.in_err-members.ensures.line)

pub returns-in-Hull-clause-line : goal.returns-in-Hull-clause-line
returns-in-Hull-clause-line c = rw c.in-Hull.is at c.in_ok-members.ensures.line

pub returns-then-number-due-clause-line : goal.returns-then-number-due-clause-line
returns-then-number-due-clause-line c =
    let same : c.in-End.number ≡ c.args.entries = omega arith in
    subst
    (λ (l : Line). ReadsOne c.args.self.now.bytes.now c.args.self.now.place c.args.self.now.number l c.next_line.new.self.place
    c.next_line.new.self.number)
    (c.in-End.is ∙ ap End same) c.in_ok-members.ensures.line

pub returns-in-End-clause-line : goal.returns-in-End-clause-line
returns-in-End-clause-line c =
    let self = c.args.self.now in
    subst (λ (bad : ReadBad). IsWrongEnd c.args.self.now.bytes.now c.args.self.now.place c.args.self.now.number c.args.entries bad) (sym c.bad.ensures)
    (wrong_count self.bytes.now self.place self.number c.args.entries c.in-End.number c.in_ok-members.field-0 c.next_line.new.self.place
    c.next_line.new.self.number c.in_ok-members.ensures.line c.in-End.is (λ (e : c.in-End.number ≡ c.args.entries). omega arith))

pub returns-clause-line : goal.returns-clause-line
returns-clause-line c =
    let self = c.args.self.now in
    subst (λ (bad : ReadBad). IsWrongEnd c.args.self.now.bytes.now c.args.self.now.place c.args.self.now.number c.args.entries bad) (sym c.bad-in_default.ensures)
    (wrong_form self.bytes.now self.place self.number c.args.entries c.in_ok-members.field-0 c.next_line.new.self.place
    c.next_line.new.self.number c.in_ok-members.ensures.line
    (no_hull_or_end c.in_ok-members.field-0 c.in_default.not-Hull c.in_default.not-End))

pub returns-clause-input : goal.returns-clause-input
returns-clause-input c = c.next_line.ensures.input
