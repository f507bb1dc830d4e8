use Rattle.term_build.proofs.Instances.{one-instance}
use Rattle.term_build.proofs.laws.one_instance.Goals as goal

pub returns : goal.returns
returns c = one-instance c.terms_give_nodes.ensures
