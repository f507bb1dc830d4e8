use Rattle.once_random.proofs.Leaves.{leaves_by_number}
use Rattle.once_random.proofs.laws.leaves_by_number.Goals as goal

pub returns : goal.returns
returns c x roots cuts group table fitting = leaves_by_number x table fitting roots cuts group
