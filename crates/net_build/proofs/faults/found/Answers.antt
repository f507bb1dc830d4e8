use Rattle.std.proofs.Common.{◌∙◌, sym}
use Rattle.net_build.proofs.FaultLemmas.{nothing_wrong}
use Rattle.net_build.proofs.faults.found.Goals as goal

pub returns-then-is_nothing : goal.returns-then-is_nothing
returns-then-is_nothing c = nothing_wrong c.args.faults (sym c.is_nothing.ensures ∙ c.if-is_nothing.true)
