use Rattle.bit_rows.specs.Sets.{members}
use Rattle.extend_set.proofs.Hulls.{hull_is, hull_provable, inside_provable, provable_is}
use Rattle.extend_set.proofs.laws.hull_is_provable.Goals as goal

pub returns-clause-whole : goal.returns-clause-whole
returns-clause-whole c x family hull fam is = hull_provable x family hull (hull_is x family hull is) fam

pub returns-clause-whole_chain : goal.returns-clause-whole_chain
returns-clause-whole_chain c x family hull table fitting fam is = provable_is x family.bound table fitting (members hull) (hull_provable x family hull (hull_is x family hull is) fam)

pub returns-clause-tuples : goal.returns-clause-tuples
returns-clause-tuples c x family hull tuple table fitting fam is = inside_provable x family hull (hull_is x family hull is) fam table fitting tuple

pub returns-clause-tuples_chain : goal.returns-clause-tuples_chain
returns-clause-tuples_chain c x family hull tuple table fitting fam is inside =
    provable_is x family.bound table fitting tuple (inside_provable x family hull (hull_is x family hull is) fam table fitting tuple inside)
