use Rattle.std.proofs.Common.{take}
use Rattle.level_unroll.proofs.Checked.{AreApart}
use Rattle.netlist_uses.proofs.premises.inputs_fit.Given as goal

abbrev pub invariant-loop-input : goal.invariant-loop-input
invariant-loop-input l = AreApart l.count l.next (take l.input-index l.inputs)
