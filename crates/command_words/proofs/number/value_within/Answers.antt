use Rattle.std.proofs.Common.{◌≡◌, arith}
use Rattle.command_words.specs.Numbers.{decimal}
use Rattle.command_words.proofs.Digits.{over, whole}
use Rattle.command_words.proofs.number.value_within.Goals as goal

pub returns-then-value-from : goal.returns-then-value-from
returns-then-value-from c =
    over c.args.digits.now c.args.most c.loop-digit.digit-index c.loop-digit.value c.loop-digit.invariant.value_is c.loop-digit-test.true (omega arith)

pub returns : goal.returns
returns c =
    let all : c.loop-digit.value ≡ decimal c.args.digits.now =
    whole c.args.digits.now c.loop-digit.digit-index c.loop-digit.value c.loop-digit.invariant.value_is c.loop-digit-test.false in
    (omega arith, all)
