use Rattle.count_law.proofs.Observing.{same_counts}
use Rattle.count_law.proofs.netlist.terms_give_netlist.Goals as goal

pub returns : goal.returns
returns c notion m roles circuit x has tuple inputs o = same_counts notion m roles circuit x has c.roots_have_values.ensures tuple inputs o
