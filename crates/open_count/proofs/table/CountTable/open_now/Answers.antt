use Rattle.std.proofs.Common.{rules}
use Rattle.open_count.proofs.Kept.{loads_open}
use Rattle.open_count.proofs.table.CountTable.open_now.Goals as goal

pub load-requires : goal.load-requires
load-requires c = (search rules, search rules, loads_open _ _ _ _)
