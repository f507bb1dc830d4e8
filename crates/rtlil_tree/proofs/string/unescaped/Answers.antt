use Rattle.rtlil_tree.proofs.Escapes.{text_moves, text_ends}
use Rattle.rtlil_tree.proofs.string.unescaped.Goals as goal

pub loop-b-preserved : goal.loop-b-preserved
loop-b-preserved c =
    text_moves c.args.raw.now c.loop-b.text.items c.step.new.text.items c.loop-b.b-index c.loop-b.escape c.in_ok-escape.escape c.loop-b-test.true c.in_ok-escape.ensures c.loop-b.invariant

pub returns : goal.returns
returns c =
    text_ends c.args.raw.now c.loop-b.text.items c.finish.new.text.items c.loop-b.b-index c.loop-b.escape c.loop-b-test.false c.in_ok-finish.ensures c.loop-b.invariant
