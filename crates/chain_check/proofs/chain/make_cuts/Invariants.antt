use Rattle.std.proofs.Common.{take}
use Rattle.bit_rows.specs.Sets.{members}
use Rattle.once_random.specs.Tuples.{roots_of}
use Rattle.chain_check.specs.Made.{CutsAreMade}
use Rattle.chain_check.proofs.chain.make_cuts.Given as goal

-- the cuts up to this place are made
abbrev pub invariant-loop-place : goal.invariant-loop-place
invariant-loop-place g l =
    CutsAreMade l.instance.table.nodes (roots_of l.instance (members l.probes)) (take l.place l.cuts) l.live.marks
