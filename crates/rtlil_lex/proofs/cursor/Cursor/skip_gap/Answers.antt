use Rattle.std.proofs.Common.{sym, ◌∙◌, drop}
use Rattle.std.proofs.lemmas.List.{take_rest}
use Rattle.rtlil_lex.proofs.Lines.{line_after_gap}
use Rattle.rtlil_lex.proofs.cursor.Cursor.skip_gap.Goals as goal

pub invariant_of-self-clause-counted : goal.invariant_of-self-clause-counted
invariant_of-self-clause-counted c =
    let self = c.args.self.now in
    self.counted ∙ sym (line_after_gap self.bytes.now self.place c.gap.result (drop c.gap.result (drop self.place self.bytes.now)) (simp take_rest at c.gap.ensures.gap))
