use Rattle.std.proofs.Common.{rules}
use Rattle.open_count.proofs.Kept.{new_seat}
use Rattle.open_count.proofs.table.CountTable.another.Goals as goal

pub split_seat-requires : goal.split_seat-requires
split_seat-requires c = (search rules, search rules, new_seat _ _ _ c.requires.spare)
