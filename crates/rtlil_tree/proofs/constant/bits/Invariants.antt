use Rattle.std.proofs.Common.{◌≡◌, take, map}
use Rattle.rtlil_tree.specs.Said.{bit_of}
use Rattle.rtlil_tree.proofs.constant.bits.Given as goal

abbrev pub invariant-loop-b : goal.invariant-loop-b
invariant-loop-b l = l.bits.items ≡ map bit_of (take l.b-index l.written)
