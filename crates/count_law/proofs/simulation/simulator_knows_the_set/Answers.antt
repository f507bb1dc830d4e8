use Rattle.count_law.proofs.Dependence.{simulator}
use Rattle.count_law.proofs.simulation.simulator_knows_the_set.Goals as goal

pub returns : goal.returns
returns c = simulator
