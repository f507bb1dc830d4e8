use Rattle.std.proofs.Common.{ℕ, ◌∙◌, sym, ap, subst, arith}
use Rattle.std.proofs.lemmas.Result.{err_from_is_err_and}
use Rattle.certificate.specs.declared.line.Line.{Line}
use Rattle.certificate.specs.declared.line.Line.TheVariants.{Title}
use Rattle.certificate.specs.declared.fault.ReadBad.{ReadBad}
use Rattle.certificate.specs.Reading.{IsMisfit, ReadsOne, is_title}
use Rattle.certificate.proofs.ReadLines.{none_due, misfit, no_title, not_title}
use Rattle.certificate.proofs.reader.Reader.title.Goals as goal

pub returns-in_err-version-clause-line : goal.returns-in_err-version-clause-line
returns-in_err-version-clause-line c =
    let p = err_from_is_err_and c.from_residual.result c.from_residual.ensures.1 in
    rw (p.1, p.2)
    (none_due is_title c.args.self.now.bytes.now c.args.self.now.place c.args.self.now.number c.in_err-version.field-0.0
    c.in_err-version.ensures.line)

pub returns-then-version-eq-VERSION-clause-line : goal.returns-then-version-eq-VERSION-clause-line
returns-then-version-eq-VERSION-clause-line c =
    subst
    (λ (l : Line). ReadsOne c.args.self.now.bytes.now c.args.self.now.place c.args.self.now.number l c.next_line.new.self.place
    c.next_line.new.self.number)
    (c.in-Title.is ∙ ap Title c.if-version-eq-VERSION.true) c.in_ok-version.ensures.line

pub returns-clause-line : goal.returns-clause-line
returns-clause-line c =
    let self = c.args.self.now in
    subst (λ (bad : ReadBad). IsMisfit is_title c.args.self.now.bytes.now c.args.self.now.place c.args.self.now.number bad) (sym c.bad-2.ensures)
    (misfit is_title self.bytes.now self.place self.number c.in_ok-version.field-0 c.next_line.new.self.place c.next_line.new.self.number
    c.in_ok-version.ensures.line (not_title c.in_ok-version.field-0 c.in-Title.version c.in-Title.is c.if-version-eq-VERSION.false))

pub returns-in_default-clause-line : goal.returns-in_default-clause-line
returns-in_default-clause-line c =
    let self = c.args.self.now in
    subst (λ (bad : ReadBad). IsMisfit is_title c.args.self.now.bytes.now c.args.self.now.place c.args.self.now.number bad) (sym c.bad.ensures)
    (misfit is_title self.bytes.now self.place self.number c.in_ok-version.field-0 c.next_line.new.self.place c.next_line.new.self.number
    c.in_ok-version.ensures.line (no_title c.in_ok-version.field-0 c.in_default.not-Title))
