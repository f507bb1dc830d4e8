use Rattle.std.proofs.Common.{rules}
use Rattle.open_count.proofs.Kept.{fails}
use Rattle.open_count.proofs.table.CountTable.fail.Goals as goal

pub fetch_min-found-requires : goal.fetch_min-found-requires
fetch_min-found-requires c = (search rules, search rules, fails _ _ _ _ _ c.requires.rank)
