use Rattle.std.proofs.Common.{rules}
use Rattle.open_count.proofs.Kept.{closes}
use Rattle.open_count.proofs.table.CountTable.close.Goals as goal

pub fetch_sub-found-requires : goal.fetch_sub-found-requires
fetch_sub-found-requires c = (search rules, search rules, closes _ _ _ _)
