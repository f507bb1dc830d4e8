use Rattle.sim_rules.proofs.Tables.{table_fits}
use Rattle.sim_rules.proofs.laws.tables_are_fitting.Goals as goal

pub returns : goal.returns
returns c = table_fits
