use Rattle.frontier_core.proofs.Verdicts.{one_verdict}
use Rattle.frontier_core.proofs.laws.verdict_is_one.Goals as goal

pub returns : goal.returns
returns c x t a b is other = one_verdict x t a b is other
