use Rattle.std.proofs.Common.{arith}
use Rattle.rtlil_tree.proofs.Digits.{natural_end, natural_over}
use Rattle.rtlil_tree.proofs.number.natural.Goals as goal

pub returns-then-value-from-clause-value : goal.returns-then-value-from-clause-value
returns-then-value-from-clause-value c =
    natural_over c.args.digits.now c.args.most c.loop-digit.digit-index c.loop-digit.value c.loop-digit.invariant.value_is c.loop-digit-test.true (omega arith)

pub returns-clause-value : goal.returns-clause-value
returns-clause-value c =
    natural_end c.args.digits.now c.args.most c.loop-digit.digit-index c.loop-digit.value c.loop-digit.invariant.value_is c.loop-digit.invariant.within c.loop-digit-test.false
