use Rattle.name_table.proofs.Links.{none_shelved}
use Rattle.name_table.proofs.slots.Slots.empty.Goals as goal

pub invariant_of-result : goal.invariant_of-result
invariant_of-result g c = record { shelved = none_shelved c.in_ok-heads.heads.items c.new.result.items c.args.slots c.requires (c.in_ok-heads.ensures.items_if_clones_equal (λ y h. h)) c.new.ensures.items }
