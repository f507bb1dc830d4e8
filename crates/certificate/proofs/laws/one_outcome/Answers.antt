use Rattle.certificate.proofs.OneOutcome.{one_certificate, one_fault, certificate_or_fault}
use Rattle.certificate.proofs.laws.one_outcome.Goals as goal

pub returns-clause-certificate : goal.returns-clause-certificate
returns-clause-certificate c = one_certificate

pub returns-clause-fault : goal.returns-clause-fault
returns-clause-fault c = λ bytes line number why reason h g. one_fault bytes line number why reason h g

pub returns-clause-either : goal.returns-clause-either
returns-clause-either c = λ bytes header entries line why h g. certificate_or_fault bytes header entries line why h g
