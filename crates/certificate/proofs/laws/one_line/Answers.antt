use Rattle.certificate.proofs.OneLine.{same_at}
use Rattle.certificate.proofs.laws.one_line.Goals as goal

pub returns : goal.returns
returns c = same_at
