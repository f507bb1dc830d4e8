use Rattle.std.proofs.Common.{◌≡◌, ◌++◌, drop}
use Rattle.rtlil_tree.specs.Said.{text_from}
use Rattle.rtlil_tree.specs.declared.string.Escape.TheVariants.{None}
use Rattle.rtlil_tree.proofs.string.unescaped.Given as goal

abbrev pub invariant-loop-b : goal.invariant-loop-b
invariant-loop-b l = l.text.items ++ text_from l.escape (drop l.b-index l.raw) ≡ text_from None l.raw
