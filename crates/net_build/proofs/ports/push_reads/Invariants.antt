use Rattle.std.proofs.Common.{◌≡◌, ◌++◌, take}
use Rattle.net_build.proofs.PortLemmas.{read_bits}
use Rattle.net_build.proofs.ports.push_reads.Given as goal

abbrev pub invariant-loop-bit : goal.invariant-loop-bit
invariant-loop-bit l = l.reads.items ≡ l.fn.reads.items ++ read_bits l.connect.line (take l.bit-index l.bit-items)
