use Rattle.std.proofs.Common.{arith}
use Rattle.certificate.proofs.Numerals.{none_small, none_large, small_found}
use Rattle.certificate.proofs.number.small_after.Goals as goal

pub returns-in_err-number : goal.returns-in_err-number
returns-in_err-number c = rw c.from_residual.ensures (none_small c.args.word.now c.args.bytes.now c.in_err-number.ensures)

pub returns-then-number-from : goal.returns-then-number-from
returns-then-number-from c =
    none_large c.args.word.now c.args.bytes.now c.in_ok-number.number c.in_ok-number.rest.now c.in_ok-number.ensures (omega arith)

pub returns : goal.returns
returns c =
    small_found c.args.word.now c.args.bytes.now c.in_ok-number.number c.in_ok-number.rest.now c.in_ok-number.ensures (omega arith)
