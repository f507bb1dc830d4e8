use Rattle.term_build.proofs.ByCells.{terms_by_cells}
use Rattle.term_build.proofs.laws.term_is_by_cells.Goals as goal

pub returns : goal.returns
returns c timing nets assigned all = terms_by_cells nets assigned timing all
