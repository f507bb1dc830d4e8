use Rattle.std.proofs.Common.{ℕ, sym, subst}
use Rattle.std.proofs.lemmas.Result.{err_from_is_err_and}
use Rattle.certificate.specs.declared.fault.ReadBad.{ReadBad}
use Rattle.certificate.specs.Reading.{IsMisfit, is_run}
use Rattle.certificate.proofs.ReadLines.{none_due, misfit, no_run}
use Rattle.certificate.proofs.reader.Reader.run.Goals as goal

pub returns-in_err-notion-clause-line : goal.returns-in_err-notion-clause-line
returns-in_err-notion-clause-line c =
    let p = err_from_is_err_and c.from_residual.result c.from_residual.ensures.1 in
    rw (p.1, p.2)
    (none_due is_run c.args.self.now.bytes.now c.args.self.now.place c.args.self.now.number c.in_err-notion.field-0.0
    c.in_err-notion.ensures.line)

pub returns-clause-line : goal.returns-clause-line
returns-clause-line c = rw c.in-Run.is at c.in_ok-notion.ensures.line

pub returns-in_default-clause-line : goal.returns-in_default-clause-line
returns-in_default-clause-line c =
    let self = c.args.self.now in
    subst (λ (bad : ReadBad). IsMisfit is_run c.args.self.now.bytes.now c.args.self.now.place c.args.self.now.number bad) (sym c.bad.ensures)
    (misfit is_run self.bytes.now self.place self.number c.in_ok-notion.field-0 c.next_line.new.self.place c.next_line.new.self.number
    c.in_ok-notion.ensures.line (no_run c.in_ok-notion.field-0 c.in_default.not-Run))
