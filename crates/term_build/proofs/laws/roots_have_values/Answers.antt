use Rattle.term_build.proofs.Instances.{roots-values}
use Rattle.term_build.proofs.laws.roots_have_values.Goals as goal

pub returns : goal.returns
returns c notion roles circuit probes x given drawn has = roots-values c.terms_have_values.ensures notion roles circuit x given drawn x.probes probes has.roots
