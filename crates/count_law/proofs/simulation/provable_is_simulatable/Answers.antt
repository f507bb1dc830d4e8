use Rattle.once_random.specs.Cuts.{least_chain}
use Rattle.once_random.proofs.Facts.{least_is_chain}
use Rattle.count_law.proofs.Simulating.{provable-simulated}
use Rattle.count_law.proofs.simulation.provable_is_simulatable.Goals as goal

pub returns-clause-roots : goal.returns-clause-roots
returns-clause-roots c x roots m table fitting within provable =
    let least = least_chain x.table.nodes roots in
    let chain = least_is_chain x.table.nodes roots in
    let laws = c.chain_keeps_counts.ensures in
    provable-simulated x table fitting roots within
    (λ inputs o. laws.same x.table roots least inputs o table within chain)
    (λ inputs others o same. laws.live x.table roots least inputs others o table within chain same) m provable

pub returns-clause-subset : goal.returns-clause-subset
returns-clause-subset c x roots some m table fitting within among provable =
    returns-clause-roots c x some m table fitting (λ row h. within row (among row h))
    (c.subset_keeps_chain.ensures.provable x roots some m among provable)
