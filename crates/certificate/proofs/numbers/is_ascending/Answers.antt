use Rattle.std.proofs.Common.{ℕ, ◌+◌, ◌<◌, refl, arith}
use Rattle.std.proofs.lemmas.Bool.{false≢true}
use Rattle.certificate.proofs.NumberLists.{ascends_one, ascends_more, ascends_not}
use Rattle.certificate.proofs.numbers.is_ascending.Goals as goal

pub loop-i-init : goal.loop-i-init
loop-i-init c = record { low = omega arith; ascends = ascends_one c.args.numbers.now }

pub returns-then-before-number : goal.returns-then-before-number
returns-then-before-number c =
    (λ t. absurd (false≢true t), λ up. absurd (ascends_not c.args.numbers.now c.loop-i.i c.loop-i.invariant.low (omega arith) (omega arith) up))

pub loop-i-preserved : goal.loop-i-preserved
loop-i-preserved c = record {
  low = omega arith;
  ascends = ascends_more c.args.numbers.now c.loop-i.i c.loop-i.invariant.ascends c.loop-i.invariant.low (omega arith);
}

pub returns : goal.returns
returns c = (λ t k l. c.loop-i.invariant.ascends k (omega arith), λ up. refl)
