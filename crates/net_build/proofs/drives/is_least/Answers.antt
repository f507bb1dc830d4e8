use Rattle.net_build.proofs.DriveLemmas.{none_before}
use Rattle.net_build.proofs.drives.is_least.Goals as goal

pub returns-in-Some : goal.returns-in-Some
returns-in-Some c = none_before c.args.refused c.in-Some.line c.args.later.now c.all_from.result c.in-Some.is c.all_from.ensures
