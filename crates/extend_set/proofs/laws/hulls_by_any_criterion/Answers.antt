use Rattle.std.proofs.Common.{refl}
use Rattle.extend_set.specs.Hull.{hull_of}
use Rattle.extend_set.proofs.Hulls.{by_inside, by_is, by_least, by_length, by_maximal, by_there, by_within, least_inside, provable_fewer}
use Rattle.extend_set.proofs.laws.hulls_by_any_criterion.Goals as goal

pub returns-clause-monotone : goal.returns-clause-monotone
returns-clause-monotone c x m table fitting = provable_fewer x m table fitting

pub returns-clause-instance : goal.returns-clause-instance
unfolding hull_of
returns-clause-instance c x family = refl

pub returns-clause-there : goal.returns-clause-there
returns-clause-there c meets n family = by_there meets n family

pub returns-clause-between : goal.returns-clause-between
returns-clause-between c meets n family hull fam is = record {
  flags = by_length meets n family hull (by_is meets n family hull is);
  least = by_least meets n family hull (by_is meets n family hull is) fam;
  parts = by_within meets n family hull (by_is meets n family hull is) fam;
  enough = least_inside n family fam hull (by_least meets n family hull (by_is meets n family hull is) fam);
}

pub returns-clause-inside : goal.returns-clause-inside
returns-clause-inside c meets n family hull tuple monotone fam is = by_inside meets n family hull (by_is meets n family hull is) fam monotone tuple

pub returns-clause-maximal : goal.returns-clause-maximal
returns-clause-maximal c meets n family hull p monotone fam is = by_maximal meets n family hull (by_is meets n family hull is) fam monotone p
