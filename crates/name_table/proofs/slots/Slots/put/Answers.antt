use Rattle.std.proofs.Common.{◌≡◌, length, ap, arith, ◌∙◌}
use Rattle.name_table.specs.Digests.{slot_of}
use Rattle.name_table.proofs.Links.{one_shelved}
use Rattle.name_table.proofs.slots.Slots.put.Goals as goal

pub invariant_of-self-2 : goal.invariant_of-self-2
invariant_of-self-2 g c = let size : c.len.result ≡ length c.args.self.now.heads.items = omega arith in record {
  shelved = one_shelved c.args.self.now.heads.items c.args.self.now.entries.items c.push.new.self.items _ c.slot_of-slot.result c.len-2.result
      c.args.self.now.shelved c.in_ok-push.ensures.items (c.slot_of-slot.ensures.slot ∙ ap (λ n. slot_of n c.args.digest) size) (omega arith) c.requires.digest
      c.index-next.ensures (omega arith) c.requires.names;
}
