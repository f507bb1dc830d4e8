use Rattle.count_law.proofs.Counting.{long, once, number}
use Rattle.count_law.proofs.counts.assignments_are_all.Goals as goal

pub returns-clause-long : goal.returns-clause-long
returns-clause-long c = long

pub returns-clause-once : goal.returns-clause-once
returns-clause-once c = once

pub returns-clause-number : goal.returns-clause-number
returns-clause-number c = number
