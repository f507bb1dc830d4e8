use Rattle.certificate.proofs.LineForms.{no_end, no_end_end, end_made}
use Rattle.certificate.proofs.forms.end.Goals as goal

pub returns-in_err-number : goal.returns-in_err-number
returns-in_err-number c = rw c.from_residual.ensures (no_end c.args.bytes.now c.in_err-number.ensures)

pub returns-in_err-rest : goal.returns-in_err-rest
returns-in_err-rest c =
    rw c.from_residual-in_err-rest.ensures
    (no_end_end c.args.bytes.now c.in_ok-number.number c.in_ok-number.rest.now c.in_ok-number.ensures c.in_err-rest.ensures)

pub returns : goal.returns
returns c =
    end_made c.args.bytes.now c.in_ok-number.number c.in_ok-number.rest.now c.in_ok-rest.rest.now c.in_ok-number.ensures
    c.in_ok-rest.ensures
