use Rattle.std.proofs.Common.{◌≡◌, take}
use Rattle.circuit_types.specs.Items.{bit_count}
use Rattle.net_build.proofs.starts.bit_total.Given as goal

abbrev pub invariant-loop-wire : goal.invariant-loop-wire
invariant-loop-wire l = l.total ≡ bit_count (take l.wire-index l.wires)
