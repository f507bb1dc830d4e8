use Rattle.term_build.proofs.Joined.{shares-join}
use Rattle.term_build.proofs.laws.shares_join.Goals as goal

pub returns : goal.returns
returns c = shares-join
