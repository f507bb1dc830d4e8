use Rattle.once_random.proofs.Provable.{within_is_each, within_is_each_group}
use Rattle.once_random.proofs.laws.within_is_each_group.Goals as goal

pub returns-clause-over : goal.returns-clause-over
returns-clause-over c = within_is_each

pub returns-clause-instance : goal.returns-clause-instance
returns-clause-instance c = within_is_each_group
