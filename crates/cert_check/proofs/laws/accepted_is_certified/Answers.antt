use Rattle.cert_check.proofs.Accepted.{accepted_certified}
use Rattle.cert_check.proofs.laws.accepted_is_certified.Goals as goal

pub returns : goal.returns
returns c x model order bytes families h = accepted_certified x model order bytes families h
