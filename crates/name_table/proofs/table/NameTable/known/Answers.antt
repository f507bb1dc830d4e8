use Rattle.std.proofs.Common.{reverse, ◌∙◌}
use Rattle.name_table.specs.Chains.{pairs}
use Rattle.name_table.proofs.Tables.{texts, found_first, found_second}
use Rattle.name_table.proofs.table.NameTable.known.Goals as goal

pub returns-in-Some : goal.returns-in-Some
returns-in-Some g c =
    found_first c.args.name.now (reverse (pairs c.self.inside.slots.entries.items)) (texts c.self.inside.others.entries) c.args.self.now c.in-Some.value c.in-Some.ensures c.self.view_is

pub returns-in-None : goal.returns-in-None
returns-in-None g c =
    found_second c.args.name.now (reverse (pairs c.self.inside.slots.entries.items)) c.self.inside.others.entries c.args.self.now c.copied.result c.in-None.ensures c.self.view_is
    (c.copied.ensures ∙ c.get.ensures.value)
