use Rattle.cert_check.proofs.Certified.{certified_accepted}
use Rattle.cert_check.proofs.laws.certified_is_accepted.Goals as goal

pub returns : goal.returns
returns c x model order bytes entries h = certified_accepted x model order bytes entries h
