use Rattle.extend_set.proofs.Hulls.{hull_is, hull_maximal}
use Rattle.extend_set.proofs.laws.hull_is_maximal.Goals as goal

pub returns : goal.returns
returns c x family hull p table fitting fam is = hull_maximal x family hull (hull_is x family hull is) fam table fitting p
