use Rattle.std.proofs.Common.{arith}
use Rattle.name_table.proofs.Links.{none_shelved}
use Rattle.name_table.proofs.slots.Slots.new.Goals as goal

pub invariant_of-result : goal.invariant_of-result
invariant_of-result g c = record { shelved = none_shelved c.new-2.result.items c.new.result.items 0 (omega arith) c.new-2.ensures.items c.new.ensures.items }
