use Rattle.cell_kinds.proofs.Reading.{kind_by_name}
use Rattle.cell_kinds.proofs.laws.names_and_cells.Goals as goal

pub returns : goal.returns
returns c = kind_by_name
