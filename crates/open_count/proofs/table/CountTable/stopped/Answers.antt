use Rattle.std.proofs.Common.{rules}
use Rattle.open_count.proofs.Kept.{loads_stop}
use Rattle.open_count.proofs.table.CountTable.stopped.Goals as goal

pub load-requires : goal.load-requires
load-requires c = (search rules, search rules, loads_stop _ _ _ _)
