use Rattle.std.proofs.Common.{◌∙◌, sym}
use Rattle.std.proofs.lemmas.List.{take_rest}
use Rattle.rtlil_lex.proofs.Gaps.{blank_gap, comment_gap}
use Rattle.rtlil_lex.proofs.forms.gap.Goals as goal

pub returns-then-begins_with-clause-gap : goal.returns-then-begins_with-clause-gap
returns-then-begins_with-clause-gap c =
    comment_gap c.args.bytes.now _ _ c.blanks-blanks.ensures.run
    (simp take_rest at (sym c.begins_with.ensures ∙ c.if-begins_with.true))
    (simp take_rest at c.line.ensures.run)

pub returns-else-begins_with-clause-gap : goal.returns-else-begins_with-clause-gap
returns-else-begins_with-clause-gap c =
    blank_gap c.args.bytes.now _ c.blanks-blanks.ensures.run
    (simp take_rest at (sym c.begins_with.ensures ∙ c.if-begins_with.false))
