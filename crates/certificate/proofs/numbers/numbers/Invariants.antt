use Rattle.std.proofs.Common.{length}
use Rattle.certificate.specs.Parts.{NumbersFirst}
use Rattle.certificate.proofs.numbers.numbers.Given as goal

-- the numbers so far, and what follows them
abbrev pub invariant-loop-number : goal.invariant-loop-number
invariant-loop-number l = NumbersFirst l.bytes l.numbers.items l.rest

abbrev pub decreases-loop-number : goal.decreases-loop-number
decreases-loop-number l = length l.rest
