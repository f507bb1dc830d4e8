use Rattle.certificate.proofs.LineForms.{no_title, no_title_end, title_made}
use Rattle.certificate.proofs.forms.title.Goals as goal

pub returns-in_err-version : goal.returns-in_err-version
returns-in_err-version c = rw c.from_residual.ensures (no_title c.args.bytes.now c.in_err-version.ensures)

pub returns-in_err-rest : goal.returns-in_err-rest
returns-in_err-rest c =
    rw c.from_residual-in_err-rest.ensures
    (no_title_end c.args.bytes.now c.in_ok-version.version c.in_ok-version.rest.now c.in_ok-version.ensures c.in_err-rest.ensures)

pub returns : goal.returns
returns c =
    title_made c.args.bytes.now c.in_ok-version.version c.in_ok-version.rest.now c.in_ok-rest.rest.now c.in_ok-version.ensures
    c.in_ok-rest.ensures
