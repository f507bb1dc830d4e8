use Rattle.std.proofs.Common.{reverse, ◌∙◌}
use Rattle.name_table.specs.Chains.{pairs}
use Rattle.name_table.proofs.Tables.{texts, also_in_slots, also_in_others}
use Rattle.name_table.proofs.table.NameTable.put.Goals as goal

pub returns-in_ok-insert : goal.returns-in_ok-insert
returns-in_ok-insert g c =
    also_in_others (reverse (pairs c.self.inside.slots.entries.items)) c.self.inside.others c.insert.new.self c.args.self.now c.args.name.now c.args.value
    (c.self.view_is ∙ c.in_ok-make_room.ensures) c.requires.new c.in_ok-insert.ensures.updates

pub returns-in_ok-put : goal.returns-in_ok-put
returns-in_ok-put g c =
    also_in_slots (pairs c.self.inside.slots.entries.items) (pairs c.put.new.self.entries.items) (texts c.self.inside.others.entries) c.args.self.now c.args.name.now c.args.value
    c.in_ok-put.ensures.names (c.self.view_is ∙ c.in_ok-make_room.ensures) c.requires.new
