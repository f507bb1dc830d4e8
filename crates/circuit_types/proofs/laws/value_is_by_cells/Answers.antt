use Rattle.circuit_types.proofs.ByCells.{values_by_cells}
use Rattle.circuit_types.proofs.laws.value_is_by_cells.Goals as goal

pub returns : goal.returns
returns c timing nets env all = values_by_cells nets env timing all
