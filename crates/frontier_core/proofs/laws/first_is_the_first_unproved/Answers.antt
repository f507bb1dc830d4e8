use Rattle.std.proofs.Common.{◌∙◌, sym}
use Rattle.std.proofs.lemmas.Bool.{true≢false}
use Rattle.frontier_core.proofs.First.{first_is, none_fails, none_says, some_says}
use Rattle.frontier_core.proofs.laws.first_is_the_first_unproved.Goals as goal

pub returns-clause-none : goal.returns-clause-none
returns-clause-none c x t = (none_says x t, none_fails x t)

pub returns-clause-some : goal.returns-clause-some
returns-clause-some c x t tuple = (some_says x t tuple, first_is x t tuple)

pub returns-clause-secure : goal.returns-clause-secure
returns-clause-secure c x t table fitting none tuple is = (c.proved_is_provable.ensures x tuple table fitting).0 (none_says x t none tuple is)

pub returns-clause-unproved : goal.returns-clause-unproved
returns-clause-unproved c x t tuple table fitting first is =
    true≢false (sym ((c.proved_is_provable.ensures x tuple table fitting).1 is) ∙ (some_says x t tuple first).fails)
