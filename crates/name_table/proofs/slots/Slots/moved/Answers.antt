use Rattle.name_table.proofs.Links.{digest_at}
use Rattle.name_table.proofs.slots.Slots.moved.Goals as goal

pub put-requires-clause-digest : goal.put-requires-clause-digest
put-requires-clause-digest g c =
    digest_at c.args.self.now.heads.items c.deref-entry-items.result.now c.args.self.now.entries.items c.loop-entry.entry-index c.entry-item.result
    c.args.self.now.shelved c.deref-entry-items.ensures.value c.loop-entry-test.true c.entry-item.is
