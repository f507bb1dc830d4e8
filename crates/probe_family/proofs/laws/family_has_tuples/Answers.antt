use Rattle.std.proofs.Common.{◌≤◌, arith}
use Rattle.probe_family.proofs.AllTuples.{tuple_of_is_tuple}
use Rattle.probe_family.proofs.laws.family_has_tuples.Goals as goal

pub returns-clause-tuple : goal.returns-clause-tuple
returns-clause-tuple c n t family tuple is le has = (tuple_of_is_tuple n t family tuple is le has).0

pub returns-clause-size : goal.returns-clause-size
returns-clause-size c n family tuple is has = let le : family.size ≤ family.size = omega arith in (tuple_of_is_tuple n family.size family tuple is le has).1
