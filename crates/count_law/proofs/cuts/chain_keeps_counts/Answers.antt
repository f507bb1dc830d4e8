use Rattle.count_law.proofs.CutCounts.{chain_counts, live_counts}
use Rattle.count_law.proofs.cuts.chain_keeps_counts.Goals as goal

pub returns-clause-same : goal.returns-clause-same
returns-clause-same c t roots cuts inputs o table within chain =
    chain_counts t table roots within (λ before e given seen chain allowed. c.cut_keeps_counts.ensures t roots before e given seen table within chain allowed) cuts chain inputs o

pub returns-clause-live : goal.returns-clause-live
returns-clause-live c t roots cuts inputs others o table within chain same = live_counts t table roots within cuts chain inputs others same o
