use Rattle.once_random.specs.Provable.{leaves_left}
use Rattle.count_law.specs.RowCounts.{count_of_rows}
use Rattle.count_law.proofs.Dependence.{no_leaf-independent}
use Rattle.count_law.proofs.simulation.provable_is_independent.Goals as goal

pub returns : goal.returns
returns c x roots table fitting within provable =
    no_leaf-independent x.groups (count_of_rows x.table roots) (leaves_left x roots) (c.provable_is_simulatable.ensures.roots x roots 0 table fitting within provable)
