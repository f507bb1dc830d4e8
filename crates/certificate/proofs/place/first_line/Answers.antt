use Rattle.certificate.proofs.OneLine.{last_form}
use Rattle.certificate.proofs.place.first_line.Goals as goal

pub returns-in-Some : goal.returns-in-Some
returns-in-Some c = rw c.in-Some.is at c.in_ok-found.ensures

pub returns-in-Some-2 : goal.returns-in-Some-2
returns-in-Some-2 c = rw c.in-Some-2.is at c.in_ok-found-2.ensures

pub returns : goal.returns
returns c =
    last_form c.args.bytes.now c.counts.result c.in_default-title.ensures c.in_default-run.ensures
    (rw c.in_default.is at c.in_ok-found.ensures) (rw c.in_default-2.is at c.in_ok-found-2.ensures) c.in_default-end.ensures
    c.counts.ensures
