use Rattle.probe_family.proofs.AllTuples.{least_is_tuple, first_of_tuples, least_rank}
use Rattle.probe_family.proofs.laws.least_is_first.Goals as goal

pub returns-clause-tuple : goal.returns-clause-tuple
returns-clause-tuple c n family is = least_is_tuple n family is

pub returns-clause-first : goal.returns-clause-first
returns-clause-first c n t family is le = first_of_tuples n t family is le

pub returns-clause-rank : goal.returns-clause-rank
returns-clause-rank c n t family tuple is le has = least_rank n t family tuple is le has
