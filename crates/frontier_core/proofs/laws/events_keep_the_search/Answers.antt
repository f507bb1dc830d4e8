use Rattle.std.proofs.Common.{[]}
use Rattle.probe_family.specs.Roots.{roots_of}
use Rattle.frontier_core.proofs.Cores.{core_begins, events_keep, roots_balance}
use Rattle.frontier_core.proofs.laws.events_keep_the_search.Goals as goal

pub returns-clause-begins : goal.returns-clause-begins
returns-clause-begins c x t workers few = core_begins x t workers (roots_of x t) [] (roots_balance x t few)

pub returns-clause-stays : goal.returns-clause-stays
returns-clause-stays c x t core events is = events_keep x t core events is
