use Rattle.std.proofs.Common.{sym, ap, ◌∙◌}
use Rattle.bit_rows.proofs.Facts.{first_member-from}
use Rattle.live_rows.specs.Chosen.{chosen_from}
use Rattle.live_rows.proofs.begin.chosen_from.Goals as goal

pub returns-then-start-eq0 : goal.returns-then-start-eq0
returns-then-start-eq0 c = c.first.ensures ∙ (sym (first_member-from c.args.set.now) ∙ ap (chosen_from c.args.set.now) (sym c.if-start-eq0.true))
