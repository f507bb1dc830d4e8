use Rattle.extend_set.proofs.Hulls.{hull_is, hull_length, hull_least, hull_within, least_inside}
use Rattle.extend_set.proofs.laws.hull_lies_between.Goals as goal

pub returns-clause-length : goal.returns-clause-length
returns-clause-length c x family hull is = hull_length x family hull (hull_is x family hull is)

pub returns-clause-least : goal.returns-clause-least
returns-clause-least c x family hull fam is = hull_least x family hull (hull_is x family hull is) fam

pub returns-clause-parts : goal.returns-clause-parts
returns-clause-parts c x family hull fam is = hull_within x family hull (hull_is x family hull is) fam

pub returns-clause-enough : goal.returns-clause-enough
returns-clause-enough c x family hull fam is = least_inside _ family fam hull (hull_least x family hull (hull_is x family hull is) fam)
