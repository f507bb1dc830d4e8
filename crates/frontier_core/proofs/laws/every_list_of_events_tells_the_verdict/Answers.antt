use Rattle.frontier_core.specs.Core.{core_after_all}
use Rattle.frontier_core.proofs.Verdicts.{failed_first, none_first, search_begins, search_stays, tree_closed}
use Rattle.frontier_core.proofs.laws.every_list_of_events_tells_the_verdict.Goals as goal

pub returns-clause-begins : goal.returns-clause-begins
returns-clause-begins c x t workers table fitting few = search_begins x t workers table fitting few

pub returns-clause-secure : goal.returns-clause-secure
returns-clause-secure c x t core events search idle none = (
  none_first x t (core_after_all x t core events) (search_stays x t core events search) idle none,
  tree_closed x t (core_after_all x t core events) (search_stays x t core events search) idle none,
)

pub returns-clause-unproved : goal.returns-clause-unproved
returns-clause-unproved c x t core events search idle rank tuple least found =
    failed_first x t (core_after_all x t core events) (search_stays x t core events search) idle rank tuple least found
