use Rattle.once_random.proofs.Saturated.{least_live}
use Rattle.once_random.proofs.laws.saturated_leaves_least.Goals as goal

pub returns : goal.returns
returns c table roots full cuts is_table within saturated = least_live table.nodes is_table.earlier roots within full saturated cuts
