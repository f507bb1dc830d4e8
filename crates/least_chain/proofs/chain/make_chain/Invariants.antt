use Rattle.bit_rows.specs.Sets.{members}
use Rattle.once_random.specs.Tuples.{roots_of}
use Rattle.least_chain.specs.Waiting.{IsCutting, work}
use Rattle.least_chain.proofs.chain.make_chain.Given as goal

-- the cuts so far are the first of the least chain
abbrev pub invariant-loop-row : goal.invariant-loop-row
invariant-loop-row g l = IsCutting l.instance.table.nodes (roots_of l.instance (members l.probes)) l.chain.items l.live l.waiting

abbrev pub decreases-loop-row : goal.decreases-loop-row
decreases-loop-row g l = work l.live l.waiting
