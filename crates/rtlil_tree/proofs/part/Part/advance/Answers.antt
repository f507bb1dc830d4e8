use Rattle.std.proofs.Common.{arith, ◌∙◌}
use Rattle.rtlil_tree.proofs.CursorLemmas.{none_in}
use Rattle.rtlil_tree.proofs.part.Part.advance.Goals as goal

pub returns-clause-line : goal.returns-clause-line
returns-clause-line c = c.loop-self.invariant.left ∙ none_in c.loop-self.self (omega arith)
