use Rattle.bit_rows.specs.Sets.{members}
use Rattle.once_random.specs.Tuples.{roots_of}
use Rattle.once_random.proofs.Facts.{roots_among, chain-among, within-among}
use Rattle.extend_set.proofs.Hulls.{all_among}
use Rattle.extend_set.proofs.laws.chain_serves_tuples.Goals as goal

pub returns-clause-chain : goal.returns-clause-chain
returns-clause-chain c x set tuple cuts inside =
    chain-among x.table.nodes (roots_of x tuple) (roots_of x (members set)) (roots_among x (members set) tuple (all_among set tuple inside)) cuts

pub returns-clause-within : goal.returns-clause-within
returns-clause-within c x set tuple cuts m inside =
    within-among x (roots_of x tuple) (roots_of x (members set)) m (roots_among x (members set) tuple (all_among set tuple inside)) cuts
