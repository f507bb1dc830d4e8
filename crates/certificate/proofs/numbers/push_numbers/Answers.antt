use Rattle.std.proofs.Common.{arith}
use Rattle.certificate.proofs.NumberLists.{small_more, text_more}
use Rattle.certificate.proofs.numbers.push_numbers.Goals as goal

pub loop-number-preserved : goal.loop-number-preserved
loop-number-preserved c = record {
  text = text_more c.args.numbers.now c.loop-number.number-index c.args.text.now.items c.loop-number.text.items c.push.new.self.items
      c.push_number.new.text.items c.loop-number-test.true c.loop-number.invariant.text c.in_ok-push.ensures.items c.in_ok-push_number.ensures;
  small = small_more c.args.numbers.now c.loop-number.number-index c.loop-number-test.true c.loop-number.invariant.small (omega arith);
}
