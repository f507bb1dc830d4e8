use Rattle.std.proofs.Common.{reverse, ap, ◌∙◌}
use Rattle.name_table.specs.Names.{value_of}
use Rattle.name_table.specs.Chains.{pairs}
use Rattle.name_table.proofs.Tables.{pairs_reverse}
use Rattle.name_table.proofs.slots.Slots.find.Goals as goal

pub returns : goal.returns
returns g c =
    c.find_in.ensures
    ∙ (ap (λ es. value_of c.args.name.now (pairs (reverse es))) c.deref.ensures.value ∙ ap (value_of c.args.name.now) (pairs_reverse c.args.self.now.entries.items))
