use Rattle.circuit_types.proofs.ByCells.{stable_by_cells}
use Rattle.circuit_types.proofs.laws.stable_is_by_cells.Goals as goal

pub returns : goal.returns
returns c roles nets all = stable_by_cells roles nets all
