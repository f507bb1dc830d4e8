use Rattle.std.proofs.Common.{rules}
use Rattle.open_count.proofs.Kept.{loads_best}
use Rattle.open_count.proofs.table.CountTable.best.Goals as goal

pub load-found-requires : goal.load-found-requires
load-found-requires c = (search rules, search rules, loads_best _ _ _ _)
