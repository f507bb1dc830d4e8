use Rattle.std.proofs.Common.{rules}
use Rattle.open_count.proofs.Kept.{splits}
use Rattle.open_count.proofs.table.CountTable.split.Goals as goal

pub fetch_add-found-requires : goal.fetch_add-found-requires
fetch_add-found-requires c = (search rules, search rules, splits _ _ _ _ _)
