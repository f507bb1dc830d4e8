use Rattle.std.proofs.Common.{arith, ap, ◌∙◌, drop}
use Rattle.std.proofs.lemmas.List.{take_rest}
use Rattle.rtlil_tree.specs.Inner.Cursor.{left_in}
use Rattle.rtlil_tree.proofs.CursorLemmas.{some_moves, none_moves}
use Rattle.rtlil_tree.proofs.part.Part.step.Goals as goal

pub returns-clause-some : goal.returns-clause-some
unfolding left_in
returns-clause-some c = λ h.
    some_moves c.args.self.now.bytes.now c.args.self.now.tokens.items _ c.args.self.now.before c.args.self.now.next c.line_size-size.result c.min-self.result c.index.result.now c.line_size-size.ensures.size
    (take_rest c.deref.result.now c.args.self.now.next ∙ ap (drop c.args.self.now.next) c.deref.ensures.value) c.requires c.index.ensures (omega arith) (omega (arith, h))

pub returns-clause-none : goal.returns-clause-none
unfolding left_in
returns-clause-none c = λ h.
    none_moves c.args.self.now.bytes.now c.args.self.now.tokens.items _ c.args.self.now.before c.args.self.now.next c.line_size-size.result c.min-self.result c.line_size-size.ensures.size
    (take_rest c.deref.result.now c.args.self.now.next ∙ ap (drop c.args.self.now.next) c.deref.ensures.value) (omega arith) (omega (arith, h))
