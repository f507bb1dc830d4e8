use Rattle.circuit_types.proofs.ByCells.{held_by_cells}
use Rattle.circuit_types.proofs.laws.held_is_by_cells.Goals as goal

pub returns : goal.returns
returns c roles nets all = held_by_cells roles nets all
