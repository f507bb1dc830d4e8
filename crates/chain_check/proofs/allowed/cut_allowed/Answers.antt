use Rattle.std.proofs.Common.{sym, ◌∙◌}
use Rattle.chain_check.proofs.Masks.{allowed_uncut}
use Rattle.chain_check.proofs.allowed.cut_allowed.Goals as goal

pub cut-requires-clause-uncut : goal.cut-requires-clause-uncut
cut-requires-clause-uncut g c =
    let shown = c.requires.shown in
    shown.shown.cut c.args.row.0
    ∙ allowed_uncut c.args.table.now.nodes shown.roots shown.cuts c.args.row.0 (sym (c.is_allowed.ensures shown.roots shown.cuts shown.shown) ∙ c.if-not-is_allowed.false)

pub returns-clause-rows : goal.returns-clause-rows
returns-clause-rows g c =
    let shown = c.requires.shown in
    (c.cut.ensures.shows shown.roots shown.cuts shown.shown).rows ∙ sym shown.shown.rows

pub returns-clause-cut : goal.returns-clause-cut
returns-clause-cut g c roots done shows allowed = c.cut.ensures.shows roots done shows
