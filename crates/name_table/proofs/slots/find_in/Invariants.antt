use Rattle.std.proofs.Common.{length}
use Rattle.name_table.proofs.Links.{IsSought}
use Rattle.name_table.proofs.slots.find_in.Given as goal

-- the names up to this number are left
abbrev pub invariant-loop-number : goal.invariant-loop-number
invariant-loop-number g l = IsSought (length l.heads) l.name l.entries l.number

abbrev pub decreases-loop-number : goal.decreases-loop-number
decreases-loop-number g l = l.number
