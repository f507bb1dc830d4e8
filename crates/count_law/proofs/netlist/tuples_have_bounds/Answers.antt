use Rattle.count_law.proofs.Observing.{same_bound}
use Rattle.count_law.proofs.netlist.tuples_have_bounds.Goals as goal

pub returns : goal.returns
returns c notion m roles circuit x has tuple = same_bound notion m roles circuit x has tuple
