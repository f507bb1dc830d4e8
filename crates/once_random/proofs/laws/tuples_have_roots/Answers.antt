use Rattle.once_random.proofs.Provable.{roots_are_rows, roots_among}
use Rattle.once_random.proofs.laws.tuples_have_roots.Goals as goal

pub returns-clause-rows : goal.returns-clause-rows
returns-clause-rows c x tuple fitting = roots_are_rows x fitting tuple

pub returns-clause-among : goal.returns-clause-among
returns-clause-among c = roots_among
