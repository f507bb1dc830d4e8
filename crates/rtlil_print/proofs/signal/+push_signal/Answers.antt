use Rattle.std.proofs.lemmas.Result.{on_ok_weaker}
use Rattle.rtlil_print.proofs.Spacing.{join_done}
use Rattle.rtlil_print.proofs.signal.+push_signal.Goals as goal

pub returns-after-loop-part : goal.returns-after-loop-part
returns-after-loop-part t c =
    on_ok_weaker c.push_word-in-Join-2.result
    (λ h. join_done c.args.text.now.items c.loop-part.text.items c.push_word-in-Join-2.new.text.items c.args.signal.now c.in-Join.parts c.as_slice-part-items.result.now c.loop-part.part-index
    c.in-Join.is c.as_slice-part-items.ensures c.loop-part-test.false c.loop-part.invariant h)
    c.push_word-in-Join-2.ensures
