use Rattle.cert_check.proofs.Outcomes.{one_due}
use Rattle.cert_check.proofs.laws.one_outcome.Goals as goal

pub returns : goal.returns
returns c x model order bytes checked other h k = one_due c.one_line.ensures x model order bytes checked other h k
