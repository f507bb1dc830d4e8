use Rattle.std.proofs.Common.{rules}
use Rattle.open_count.proofs.Kept.{stops}
use Rattle.open_count.proofs.table.CountTable.stop.Goals as goal

pub fetch_or-found-requires : goal.fetch_or-found-requires
fetch_or-found-requires c = (search rules, search rules, stops _ _ _ _)
