use Rattle.std.proofs.Common.{Err, refl, inl}
use Rattle.accepted_netlist.specs.Netlist.{tuple_causes}
use Rattle.accepted_netlist.proofs.counting.tuple_counts.Goals as goal

pub returns-in-Ok-clause-cause : goal.returns-in-Ok-clause-cause
unfolding tuple_causes
returns-in-Ok-clause-cause c = ((λ more. let wrong = c.in-Ok.ensures.too_many.1 more in absurd cc), tt)

pub returns-in-Err-TooManyTuples-clause-cause : goal.returns-in-Err-TooManyTuples-clause-cause
unfolding tuple_causes
returns-in-Err-TooManyTuples-clause-cause c =
    inl (c.in-Err-TooManyTuples.ensures.too_many.0 (λ i. Err (c.in-Err-TooManyTuples.field-0-is i)), refl)
