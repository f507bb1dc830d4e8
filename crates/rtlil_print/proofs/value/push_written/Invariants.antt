use Rattle.std.proofs.Common.{◌≡◌, ◌++◌, take, map}
use Rattle.rtlil_tree.specs.Lexemes.{bit_code}
use Rattle.rtlil_print.proofs.value.push_written.Given as goal

abbrev pub invariant-loop-bit : goal.invariant-loop-bit
invariant-loop-bit l = l.text.items ≡ l.fn.text.items ++ map bit_code (take l.bit-index l.written)
