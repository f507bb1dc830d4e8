use Rattle.accepted_netlist.proofs.OneNetlist.{same-netlist, one-refusal, accepted-refused}
use Rattle.accepted_netlist.proofs.laws.one_netlist_or_refusal.Goals as goal

pub returns-clause-netlist : goal.returns-clause-netlist
returns-clause-netlist c = same-netlist c.one_tree.ensures

pub returns-clause-refusal : goal.returns-clause-refusal
returns-clause-refusal c = one-refusal c.one_tree.ensures c.one_refusal.ensures.one c.one_refusal.ensures.no_top

pub returns-clause-either : goal.returns-clause-either
returns-clause-either c = accepted-refused c.one_tree.ensures c.one_refusal.ensures.one c.one_refusal.ensures.no_top
