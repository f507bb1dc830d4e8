use Rattle.std.proofs.Common.{◌≡◌, length, take}
use Rattle.name_table.specs.Chains.{pairs}
use Rattle.name_table.proofs.slots.Slots.moved.Given as goal

abbrev pub invariant-loop-entry : goal.invariant-loop-entry
invariant-loop-entry g l = (pairs l.moved.entries.items ≡ pairs (take l.entry-index l.self.entries.items)) × (length l.moved.heads.items ≡ l.slots)
