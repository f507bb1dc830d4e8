use Rattle.std.proofs.Common.{◌≡◌, ◌+◌, ◌≤◌, ◌++◌, length, take, drop, map}
use Rattle.circuit_types.specs.Signals.{signal_bits, joined_from_last}
use Rattle.net_build.proofs.expand.+push_bits.Given as goal

-- what is written and what is left of the parts not yet seen make what is due
abbrev pub invariant-loop-k : goal.invariant-loop-k
invariant-loop-k l = (l.k ≤ length l.parts)
    × (l.low + l.count ≤ length (joined_from_last (map (signal_bits l.wires.list.now) (take l.k l.parts))))
    × (l.bits.items ++ take l.count (drop l.low (joined_from_last (map (signal_bits l.wires.list.now) (take l.k l.parts))))
    ≡ l.fn.bits.items ++ take l.fn.count (drop l.fn.low (signal_bits l.wires.list.now l.fn.signal)))

abbrev pub decreases-loop-k : goal.decreases-loop-k
decreases-loop-k l = l.k
