use Rattle.term_build.specs.TermInstance.{random_count}
use Rattle.count_law.specs.Netlists.{bits_observed, observed}
use Rattle.count_law.proofs.Observing.{observed-long}
use Rattle.count_law.proofs.netlist.tuple_counts_add_up.Goals as goal

pub returns : goal.returns
returns c notion model roles circuit tuple inputs =
    c.counts_add_up.ensures (random_count notion roles circuit) (bits_observed model roles circuit tuple) (observed notion model roles circuit tuple inputs)
    (λ w long. observed-long notion model roles circuit tuple inputs w)
