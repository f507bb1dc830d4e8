use Rattle.std.proofs.Common.{◌^◌}
use Rattle.certificate.proofs.Numerals.{none_without, behind_word}
use Rattle.certificate.proofs.number.number_after.Goals as goal

pub returns-in_err-after : goal.returns-in_err-after
returns-in_err-after c = rw c.from_residual.ensures (none_without (2 ^ 64) c.args.word.now c.args.bytes.now c.in_err-after.ensures)

pub returns : goal.returns
returns c =
    behind_word (2 ^ 64) c.args.word.now c.args.bytes.now c.in_ok-after.field-0.now c.number.result c.in_ok-after.ensures c.number.ensures
