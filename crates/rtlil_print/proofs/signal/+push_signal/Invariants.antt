use Rattle.std.proofs.Common.{◌≡◌, ◌++◌, take, codes}
use Rattle.std.specs.List.{flat_map}
use Rattle.rtlil_print.proofs.Spacing.{signal_text}
use Rattle.rtlil_print.proofs.signal.+push_signal.Given as goal

abbrev pub invariant-loop-part : goal.invariant-loop-part
invariant-loop-part l = l.text.items ≡ (l.fn.text.items ++ codes " {") ++ flat_map signal_text (take l.part-index l.part-items)
